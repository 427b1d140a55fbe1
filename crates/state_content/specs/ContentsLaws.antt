-- The machine of a paragraph is lawful.
use Rattle.std.proofs.Common.{◌≡◌, ℕ, ◌<◌, ◌++◌, true, refl, length, List, [], arith}
use Rattle.engine_events.specs.declared.event.Name.{Name as EventName}
use Rattle.engine_events.specs.declared.place.Point.{Point}
use Rattle.engine_states.specs.declared.state.Block.{Block as BlockName}
use Rattle.engine_states.specs.declared.state.Block.TheVariants as state_block
use Rattle.engine_states.specs.declared.state.Inline.{Inline as InlineName}
use Rattle.engine_states.specs.declared.state.Inline.TheVariants as state_inline
use Rattle.engine_states.specs.declared.state.Name.{Name}
use Rattle.engine_states.specs.declared.state.Name.TheVariants.{Block, Inline}
use Rattle.engine_states.specs.declared.state.State.TheVariants as states
use Rattle.markdown_engine.specs.declared.attempt.Attempt.{Attempt}
use Rattle.markdown_engine.specs.Context.{Context}
use Rattle.markdown_engine.specs.Laws.{LawfulAt}
use Rattle.markdown_engine.specs.Machine.{fresh_config}
use Rattle.markdown_engine.specs.Order.{open_after}
use Rattle.markdown_engine.specs.Reading.{Config}
use Rattle.markdown_engine.specs.Resolving.{ResolvesAt, resolves_nothing, settles_whole}
use Rattle.engine_programs.specs.Bodies.{names_of, step_by}
use Rattle.engine_programs.specs.Sorts.{fits}
use Rattle.engine_programs.specs.Stacks.{program_rank, program_valid}
use Rattle.engine_programs.specs.ProgramLaws.{program_begins, program_lawful, program_open, program_resolves}
use Rattle.state_table.specs.Table.{inline_group}
use Rattle.state_table.specs.BlockTable.{block_group}
use Rattle.state_content.specs.declared.contents.Contents.{Contents}
use Rattle.state_content.specs.Contents.{contents_bodies, contents_body, contents_part, contents_sorts}

module _ {T : Type 0} (x : Context T) where
  -- the bodies fit the table
  names_fit : (n : BlockName) → fits contents_sorts 64 (Block n) (contents_body x (block_group n) n) ≡ true
  names_fit state_block.ContentDefinitionBefore = refl
  names_fit n = refl

  parts_fit : (n : InlineName) → fits contents_sorts 64 (Inline n) (contents_part x (inline_group n) n) ≡ true
  parts_fit state_inline.LabelStart = refl
  parts_fit n = refl

  contents_fit : (n : Name) → fits contents_sorts 64 n (contents_bodies x n) ≡ true
  unfolding contents_bodies
  contents_fit (Block n) = names_fit n
  contents_fit (Inline n) = parts_fit n

  least : 1 < 64
  least = omega arith

  pub contents_lawful : LawfulAt (length x.bytes) (program_valid contents_sorts 64 (length x.bytes)) (step_by (contents_bodies x))
      (program_rank contents_sorts 64 (length x.bytes))
  contents_lawful = program_lawful contents_sorts 64 (length x.bytes) (contents_bodies x) least contents_fit

  pub contents_resolve : ResolvesAt {M = Contents} (program_valid contents_sorts 64 (length x.bytes)) resolves_nothing settles_whole
  contents_resolve = program_resolves contents_sorts 64 (length x.bytes) (contents_bodies x) least contents_fit

-- what is open where a state is called
pub contents_open : {T : Type 0} (x : Context T) (c : Config Contents) (stack : List Attempt) (n : Name)
    → program_valid contents_sorts 64 (length x.bytes) c stack (states.Retry n)
    → (rest : List EventName) × (open_after [] c.events ≡ names_of c.tokenize_state (contents_sorts n).open_tokens ++ rest)
contents_open x c stack n h = program_open contents_sorts 64 (length x.bytes) (contents_bodies x) (least x) (contents_fit x) c stack n h

-- reading may begin with a paragraph
pub contents_begin : (size : ℕ) (machine : Contents) (p : Point)
    → program_valid contents_sorts 64 size (fresh_config p machine) [] (states.Next (Block state_block.ContentDefinitionBefore))
contents_begin size machine p = program_begins contents_sorts 64 size (Block state_block.ContentDefinitionBefore) machine p refl refl refl refl
