-- What is seen of a reader of flow, and what its calls do.
use Rattle.std.specs.Prelude.{ℕ, ◌-◌, Bool, true, false, not, nat_lt, ◌==◌, ◌&&◌, ◌||◌, if◌then◌else◌, List, [], ◌∷◌, ◌++◌, length, take, drop, slice_get}
use Rattle.std.specs.Prelude.{Option, None, Some}
use Rattle.std.specs.List.{fold}
use Rattle.std.specs.Option.{option_map}
use Rattle.engine_states.specs.declared.container.Container.{Container}
use Rattle.engine_states.specs.declared.container.Container.TheVariants as containers
use Rattle.engine_events.specs.declared.event.Event.{Event}
use Rattle.engine_events.specs.declared.place.Point.{Point}
use Rattle.markdown_engine.specs.Context.{Context}
use Rattle.markdown_engine.specs.KeptState.{KeptState}
use Rattle.markdown_engine.specs.VirtualText.{IsCut}
use Rattle.state_table.specs.Words.{more}
use Rattle.state_containers.specs.Open.{is_open}
use Rattle.state_document.specs.Readers.{Calls}
use Rattle.state_reader.specs.declared.reader.FlowReader.{FlowReader}
use Rattle.state_reader.specs.declared.span.Span.{Span}
use Rattle.state_reader.specs.Flow.{FlowHolds, FlowSeen, flow_anew, flow_context, flow_finished, flow_line, flow_read, flow_seen, fresh_flow, is_accepting}
use Rattle.state_reader.specs.Span.{closed_at, kind_of, marked_at, opened_span}

-- what was read, where the flow of the line begins, what is known of the lines before, and the containers, of which some are open
pub record ReaderSeen : Type 0 where
  pub flow : Option FlowSeen
  pub begun : Option Point
  pub accepting : Bool
  pub stays : Bool
  pub pierced : Bool
  pub mark : ℕ
  pub spans : List Span
  pub nested : List ℕ

abbrev pub reader_seen : FlowReader → ReaderSeen
reader_seen r = record {
  flow = option_map flow_seen r.flow;
  begun = r.begun;
  accepting = r.accepting;
  stays = r.stays;
  pierced = r.pierced;
  mark = r.mark;
  spans = r.spans.items;
  nested = r.nested.items;
}

-- ---- places

-- a text may be cut at a place
abbrev pub is_cut : List ℕ → Point → Bool
is_cut bytes p = nat_lt p.index (length bytes) || ((p.index == length bytes) && (p.vs == 0))

abbrev pub cut_at : Point → ℕ × ℕ
cut_at p = (p.index, p.vs)

-- ---- containers

-- those after so many aren't open any more at a line
abbrev pub closed : ℕ → ℕ → ReaderSeen → ReaderSeen
closed count line v = record v { spans = fold (closed_at line) v.spans (drop count v.nested); nested = take count v.nested }

-- one begins on a line, in the innermost that is open
abbrev pub opened : Container → ℕ → ReaderSeen → ReaderSeen
opened kind line v = record v {
  spans = v.spans ++ opened_span kind v.mark line (slice_get v.nested (length v.nested - 1)) ∷ [];
  nested = v.nested ++ length v.spans ∷ [];
}

-- all went on, and none began
abbrev pub goes_on : KeptState → ReaderSeen → Bool
goes_on k v = (k.space_or_tab_max == length k.containers) && not v.pierced

-- ---- flow

-- the flow of a new container begins
abbrev pub anew : ReaderSeen → ReaderSeen
anew v = record v { flow = option_map flow_anew v.flow }

module _ {T : Type 0} (x : Context T) where
  -- the flow of the line is read up to a place
  abbrev pub line_read : Point → ReaderSeen → Option Point → ReaderSeen
  line_read p v None = v
  line_read p v (Some b) =
      if is_cut x.bytes p then record v { flow = option_map (flow_read (flow_context x) (cut_at b) (cut_at p)) v.flow; begun = None }
      else record v { begun = None }

  -- what flow left open ends
  abbrev pub finished : ReaderSeen → ReaderSeen
  finished v = record v { flow = option_map (flow_finished (flow_context x)) v.flow }

-- all containers stay open if a paragraph goes on, and else those that went on
abbrev pub settled_by : KeptState → Point → ReaderSeen → Bool → Bool → ReaderSeen
settled_by k b v stays accepting =
    let w : ReaderSeen = record v { accepting = accepting; stays = stays; pierced = false } in
    if stays then w else closed k.space_or_tab_max b.line w

abbrev pub settled_with : KeptState → Point → ReaderSeen → Option FlowSeen → ReaderSeen
settled_with k b v None = v
settled_with k b v (Some f) = settled_by k b v (((f.halt.config.lazy && not v.pierced) && v.accepting) && is_accepting f) (is_accepting f)

abbrev pub settled : KeptState → Option Point → ReaderSeen → ReaderSeen
settled k None v = v
settled k (Some b) v = settled_with k b v v.flow

-- ---- what the calls do

-- a line has a marker of a container, if there is one
abbrev pub with_marker : ℕ → ReaderSeen → Option ℕ → ReaderSeen
with_marker line v None = v
with_marker line v (Some index) = record v { spans = marked_at line v.spans index }

-- a quote that goes on has a marker on the line
abbrev pub reader_went_on : ReaderSeen → KeptState → Point → ReaderSeen
reader_went_on v k p = if is_open k containers.BlockQuote then with_marker p.line v (slice_get v.nested k.space_or_tab_max) else v

abbrev pub reader_marked : ReaderSeen → ℕ → ReaderSeen
reader_marked v n = record v { mark = n }

module _ {T : Type 0} (x : Context T) (v : ReaderSeen) (k : KeptState) (p : Point) where
  -- flow ends in the containers that don't go on, and begins anew in the new one
  abbrev pub reader_begun : ReaderSeen
  reader_begun =
      record (opened (kind_of k.marker_b) p.line (anew (finished x (closed k.space_or_tab_max p.line v)))) { pierced = true }

  -- the line is lazy unless all containers went on
  abbrev pub reader_flow_begun : ReaderSeen
  reader_flow_begun =
      if is_cut x.bytes p then record v { flow = option_map (flow_line x p (not (goes_on k v))) v.flow; begun = Some p } else v

  abbrev pub reader_flow_read : ReaderSeen
  reader_flow_read = settled k v.begun (line_read x p v v.begun)

  abbrev pub reader_ended : ReaderSeen
  reader_ended = closed 0 (more p.line) (settled k v.begun (finished x (line_read x p v v.begun)))

abbrev pub flag_of : (FlowSeen → Bool) → Option FlowSeen → Bool
flag_of flag None = false
flag_of flag (Some f) = flag f

abbrev pub reader_calls : {T : Type 0} → Calls T ReaderSeen
reader_calls = record {
  went_on = reader_went_on;
  marked = reader_marked;
  begun = reader_begun;
  flow_begun = reader_flow_begun;
  flow_read = reader_flow_read;
  ended = reader_ended;
  interrupts = λ v k. flag_of (λ f. f.halt.config.interrupt) v.flow && goes_on k v;
  is_concrete = λ v k. flag_of (λ f. f.halt.config.concrete) v.flow && goes_on k v;
  stays_open = λ v. v.stays;
}

-- ---- what holds

abbrev pub HoldsFlow : List ℕ → Option FlowSeen → Type 0
HoldsFlow bytes None = Unit {0}
HoldsFlow bytes (Some f) = FlowHolds bytes f

abbrev pub HoldsBegun : List ℕ → Option Point → Type 0
HoldsBegun bytes None = Unit {0}
HoldsBegun bytes (Some p) = IsCut bytes (cut_at p)

-- flow may read on, and a line that is begun is in the text
pub record ReaderHolds {T : Type 0} (x : Context T) (v : ReaderSeen) : Type 0 where
  pub flow : HoldsFlow x.bytes v.flow
  pub begun : HoldsBegun x.bytes v.begun

-- the events of flow
abbrev pub flow_events : Option FlowSeen → List Event
flow_events None = []
flow_events (Some f) = f.halt.config.events

-- nothing was read
abbrev pub fresh_reader : Point → ReaderSeen
fresh_reader p = record { flow = Some (fresh_flow p); begun = None; accepting = false; stays = false; pierced = false; mark = 0; spans = []; nested = [] }
