-- What flow has read, between two lines, and how it reads on.
use Rattle.std.specs.Prelude.{ℕ, ◌-◌, Bool, true, false, ◌||◌, if◌then◌else◌, List, [], length, slice_get, Option, None, Some}
use Rattle.std.specs.BTreeMap.{insert_entry}
use Rattle.std.specs.Ordering.{nat_cmp}
use denote.Enum.Bare.{sameb}
use Rattle.engine_edits.specs.Edits.{edits_of}
use Rattle.engine_states.specs.contracts.state.Block.{the_type}
use Rattle.engine_events.specs.declared.event.Event.{Event}
use Rattle.engine_events.specs.declared.event.Name.TheVariants as names
use Rattle.engine_events.specs.declared.place.Point.{Point}
use Rattle.engine_states.specs.declared.state.Block.TheVariants as state_block
use Rattle.engine_states.specs.declared.state.Name.{Name}
use Rattle.engine_states.specs.declared.state.Name.TheVariants.{Block, Inline}
use Rattle.engine_states.specs.declared.state.State.{State}
use Rattle.engine_states.specs.declared.state.State.TheVariants as states
use Rattle.engine_events.specs.Names.{same_name}
use Rattle.markdown_engine.specs.Context.{Context, without_labels}
use Rattle.markdown_engine.specs.KeptState.{kept_state}
use Rattle.markdown_engine.specs.Laws.{MovesOn}
use Rattle.markdown_engine.specs.Machine.{fresh_config}
use Rattle.markdown_engine.specs.Reading.{Config}
use Rattle.markdown_engine.specs.Turns.{Halt, halt_at, halted, range_start}
use Rattle.markdown_engine.specs.VirtualText.{IsCut, Skips, Source, line_start}
use Rattle.engine_programs.specs.Bodies.{step_by}
use Rattle.engine_programs.specs.Stacks.{program_rank, program_valid}
use Rattle.state_table.specs.BlockWords.{next}
use Rattle.state_flow.specs.Flows.{flows_bodies, flows_sorts}
use Rattle.state_flow.specs.declared.flows.Flows.{Flows}
use Rattle.state_reader.specs.declared.flow.Flow.{Flow}

-- where reading is, what is skipped, and where the last range ended
pub record FlowSeen : Type 0 where
  pub halt : Halt Flows
  pub skips : Skips
  pub end : ℕ × ℕ

abbrev pub waiting_config : {B : Type 0} → Flow B → Config Flows
waiting_config f = record {
  events = f.events.items;
  point = f.point;
  next = f.next;
  line_start = f.line_start;
  previous = f.previous;
  current = f.current;
  tokenize_state = kept_state f.tokenize_state;
  map = edits_of f.map;
  resolvers = f.resolvers.items;
  interrupt = f.interrupt;
  lazy = f.lazy;
  concrete = f.concrete;
  pierce = f.pierce;
  machine = f.machine;
}

abbrev pub flow_seen : {B : Type 0} → Flow B → FlowSeen
flow_seen f = record {
  halt = record { config = waiting_config f; attempts = f.attempts.items; state = f.state };
  skips = f.skips.entries;
  end = f.end;
}

-- the state in which flow begins
abbrev pub flow_start : State
flow_start = next state_block.FlowStart

-- nothing was read, from a place on
abbrev pub flows : Flows
flows = record {}

abbrev pub fresh_flow : Point → FlowSeen
fresh_flow p = record {
  halt = record { config = fresh_config p flows; attempts = []; state = flow_start };
  skips = [];
  end = (0, 0);
}

-- ---- reading

-- flow may read on in a text of so many bytes
pub record FlowHolds (bytes : List ℕ) (f : FlowSeen) : Type 0 where
  pub valid : program_valid flows_sorts 64 (length bytes) f.halt.config f.halt.attempts f.halt.state
  pub moves_on : MovesOn f.halt.state
  pub end : IsCut bytes f.end

-- the text as flow reads it: it asks for no label
abbrev pub flow_context : {T : Type 0} → Context T → Context T
flow_context x = without_labels x.bytes x.options x.tables

module _ {T : Type 0} (x : Context T) where
  abbrev pub flow_source : FlowSeen → Source
  flow_source f = record { bytes = x.bytes; skips = f.skips }

  -- a range is read
  unfoldable pub flow_read : ℕ × ℕ → ℕ × ℕ → FlowSeen → FlowSeen
  flow_read from to f = record f {
    halt = halted (step_by (flows_bodies x)) (flow_source f) to false (program_rank flows_sorts 64 (length x.bytes))
        (halt_at (range_start (flow_source f) from f.halt.config.point) f.halt);
    end = to;
  }

  -- the end of the text is read, where the last range ended
  unfoldable pub flow_finished : FlowSeen → FlowSeen
  flow_finished f = record f {
    halt = halted (step_by (flows_bodies x)) (flow_source f) f.end true (program_rank flows_sorts 64 (length x.bytes)) f.halt;
  }

-- a line begins at a place, which is lazy if a container around it doesn't go on
abbrev pub flow_line : {T : Type 0} → Context T → Point → Bool → FlowSeen → FlowSeen
flow_line x p is_lazy f = record f {
  halt = record f.halt { config = record f.halt.config { lazy = is_lazy } };
  skips = insert_entry nat_cmp f.skips (line_start x.bytes p.index) p;
}

-- the flow of a new container begins after flow that ended: its paragraphs have no lines before (`state_left`)
abbrev pub begun_config : Config Flows → Config Flows
begun_config c = record c { tokenize_state = record c.tokenize_state { space_or_tab_min = length c.events }; interrupt = false }

abbrev pub flow_anew : FlowSeen → FlowSeen
flow_anew f = record f { halt = record f.halt { config = begun_config f.halt.config; state = flow_start } }

-- ---- whether a paragraph is open

-- the line before may be the head of a table
abbrev pub is_after_head : Name → Bool
is_after_head (Block n) = sameb the_type n state_block.GfmTableHeadDelimiterStart
is_after_head (Inline n) = false

abbrev pub may_be_head : State → Bool
may_be_head (states.Error m) = false
may_be_head (states.Next n) = is_after_head n
may_be_head (states.Retry n) = false
may_be_head states.Ok = false
may_be_head states.Nok = false

abbrev pub is_content : Option Event → Bool
is_content None = false
is_content (Some e) = same_name e.name names.Content

abbrev pub is_line_ending : Option Event → Bool
is_line_ending None = false
is_line_ending (Some e) = same_name e.name names.LineEnding

-- the last event is a paragraph's, or the last before a line ending is
abbrev pub is_paragraph_last : List Event → Bool
is_paragraph_last es =
    if is_line_ending (slice_get es (length es - 1)) then is_content (slice_get es (length es - 3)) else is_content (slice_get es (length es - 1))

-- a paragraph is open after a line
abbrev pub is_accepting : FlowSeen → Bool
is_accepting f = may_be_head f.halt.state || is_paragraph_last f.halt.config.events
