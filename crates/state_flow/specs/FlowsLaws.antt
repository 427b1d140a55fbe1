-- The machine of the blocks of a text is lawful.
use Rattle.std.proofs.Common.{◌≡◌, ℕ, ◌<◌, ◌++◌, true, refl, length, List, [], arith}
use Rattle.engine_events.specs.declared.event.Name.{Name as EventName}
use Rattle.engine_events.specs.declared.place.Point.{Point}
use Rattle.engine_states.specs.declared.state.Block.{Block as BlockName}
use Rattle.engine_states.specs.declared.state.Block.TheVariants as state_block
use Rattle.engine_states.specs.declared.state.Inline.{Inline as InlineName}
use Rattle.engine_states.specs.declared.state.Inline.TheVariants as state_inline
use Rattle.engine_states.specs.declared.state.Name.{Name}
use Rattle.engine_states.specs.declared.state.Name.TheVariants.{Block, Inline}
use Rattle.engine_states.specs.declared.state.State.TheVariants as states
use Rattle.markdown_engine.specs.declared.attempt.Attempt.{Attempt}
use Rattle.markdown_engine.specs.Context.{Context}
use Rattle.markdown_engine.specs.Laws.{LawfulAt}
use Rattle.markdown_engine.specs.Machine.{fresh_config}
use Rattle.markdown_engine.specs.Order.{open_after}
use Rattle.markdown_engine.specs.Reading.{Config}
use Rattle.markdown_engine.specs.Resolving.{ResolvesAt, resolves_nothing, settles_whole}
use Rattle.engine_programs.specs.Bodies.{names_of, step_by}
use Rattle.engine_programs.specs.Sorts.{fits}
use Rattle.engine_programs.specs.Stacks.{program_rank, program_valid}
use Rattle.engine_programs.specs.ProgramLaws.{program_begins, program_lawful, program_open, program_resolves}
use Rattle.state_table.specs.Table.{inline_group}
use Rattle.state_table.specs.BlockTable.{block_group}
use Rattle.state_flow.specs.declared.flows.Flows.{Flows}
use Rattle.state_flow.specs.Flows.{flows_bodies, flows_body, flows_part, flows_sorts}

module _ {T : Type 0} (x : Context T) where
  -- the bodies fit the table
  names_fit : (n : BlockName) → fits flows_sorts 64 (Block n) (flows_body x (block_group n) n) ≡ true
  names_fit state_block.FlowStart = refl
  names_fit n = refl

  parts_fit : (n : InlineName) → fits flows_sorts 64 (Inline n) (flows_part x (inline_group n) n) ≡ true
  parts_fit state_inline.LabelStart = refl
  parts_fit n = refl

  flows_fit : (n : Name) → fits flows_sorts 64 n (flows_bodies x n) ≡ true
  unfolding flows_bodies
  flows_fit (Block n) = names_fit n
  flows_fit (Inline n) = parts_fit n

  least : 1 < 64
  least = omega arith

  pub flows_lawful : LawfulAt (length x.bytes) (program_valid flows_sorts 64 (length x.bytes)) (step_by (flows_bodies x))
      (program_rank flows_sorts 64 (length x.bytes))
  flows_lawful = program_lawful flows_sorts 64 (length x.bytes) (flows_bodies x) least flows_fit

  pub flows_resolve : ResolvesAt {M = Flows} (program_valid flows_sorts 64 (length x.bytes)) resolves_nothing settles_whole
  flows_resolve = program_resolves flows_sorts 64 (length x.bytes) (flows_bodies x) least flows_fit

-- what is open where a state is called
pub flows_open : {T : Type 0} (x : Context T) (c : Config Flows) (stack : List Attempt) (n : Name)
    → program_valid flows_sorts 64 (length x.bytes) c stack (states.Retry n)
    → (rest : List EventName) × (open_after [] c.events ≡ names_of c.tokenize_state (flows_sorts n).open_tokens ++ rest)
flows_open x c stack n h = program_open flows_sorts 64 (length x.bytes) (flows_bodies x) (least x) (flows_fit x) c stack n h

-- reading may begin with the blocks of a text
pub flows_begin : (size : ℕ) (machine : Flows) (p : Point)
    → program_valid flows_sorts 64 size (fresh_config p machine) [] (states.Next (Block state_block.FlowStart))
flows_begin size machine p = program_begins flows_sorts 64 size (Block state_block.FlowStart) machine p refl refl refl refl
