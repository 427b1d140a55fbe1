-- A machine of documents is lawful, whatever it does with its flow.
use Rattle.std.proofs.Common.{◌≡◌, ℕ, ◌<◌, ◌++◌, true, refl, length, List, [], arith}
use Rattle.engine_events.specs.declared.event.Name.{Name as EventName}
use Rattle.engine_events.specs.declared.place.Point.{Point}
use Rattle.engine_states.specs.declared.state.Block.{Block as BlockName}
use Rattle.engine_states.specs.declared.state.Block.TheVariants as state_block
use Rattle.engine_states.specs.declared.state.Inline.{Inline as InlineName}
use Rattle.engine_states.specs.declared.state.Inline.TheVariants as state_inline
use Rattle.engine_states.specs.declared.state.Name.{Name}
use Rattle.engine_states.specs.declared.state.Name.TheVariants.{Block, Inline}
use Rattle.engine_states.specs.declared.state.State.TheVariants as states
use Rattle.markdown_engine.specs.declared.attempt.Attempt.{Attempt}
use Rattle.markdown_engine.specs.Context.{Context}
use Rattle.markdown_engine.specs.Laws.{LawfulAt}
use Rattle.markdown_engine.specs.Machine.{fresh_config}
use Rattle.markdown_engine.specs.Order.{open_after}
use Rattle.markdown_engine.specs.Reading.{Config}
use Rattle.markdown_engine.specs.Resolving.{ResolvesAt, resolves_nothing, settles_whole}
use Rattle.engine_programs.specs.Bodies.{names_of, step_by}
use Rattle.engine_programs.specs.Sorts.{fits}
use Rattle.engine_programs.specs.Stacks.{program_rank, program_valid}
use Rattle.engine_programs.specs.ProgramLaws.{program_begins, program_lawful, program_open, program_resolves}
use Rattle.state_table.specs.declared.Group.{Group as InlineGroup}
use Rattle.state_table.specs.declared.Group.TheVariants as inline_groups
use Rattle.state_table.specs.Table.{inline_group}
use Rattle.state_table.specs.declared.block.Group.{Group}
use Rattle.state_table.specs.declared.block.Group.TheVariants as groups
use Rattle.state_table.specs.BlockTable.{block_group}
use Rattle.state_labels.specs.LabelStates.{label_body}
use Rattle.state_flow_leaves.specs.LeavesStates.{leaves_body}
use Rattle.state_containers.specs.ContainerStates.{container_body}
use Rattle.state_document.specs.Readers.{AreKept, Calls}
use Rattle.state_document.specs.DocumentStates.{document_body}
use Rattle.state_document.specs.Blocks.{blocks_bodies, blocks_body, blocks_part, blocks_sorts, blocks_valid}
use Rattle.state_document.specs.HoldingLaws.{Keeps, lawful_with, none_keeps, resolves_with, run_keeps}
use Rattle.state_document.specs.ViewLaws.{containers_move_none, labels_move_none, leaves_move_none}

module _ {T V : Type 0} (calls : Calls T V) (x : Context T) where
  -- the bodies fit the table
  names_fit : (n : BlockName) → fits blocks_sorts 256 (Block n) (blocks_body calls x (block_group n) n) ≡ true
  names_fit state_block.DocumentStart = refl
  names_fit n = refl

  parts_fit : (n : InlineName) → fits blocks_sorts 256 (Inline n) (blocks_part {V = V} calls x (inline_group n) n) ≡ true
  parts_fit state_inline.LabelStart = refl
  parts_fit n = refl

  blocks_fit : (n : Name) → fits blocks_sorts 256 n (blocks_bodies calls x n) ≡ true
  unfolding blocks_bodies
  blocks_fit (Block n) = names_fit n
  blocks_fit (Inline n) = parts_fit n

  least : 1 < 256
  least = omega arith

  program : LawfulAt (length x.bytes) (program_valid blocks_sorts 256 (length x.bytes)) (step_by (blocks_bodies calls x))
      (program_rank blocks_sorts 256 (length x.bytes))
  program = program_lawful blocks_sorts 256 (length x.bytes) (blocks_bodies calls x) least blocks_fit

  program_resolve : ResolvesAt {M = V} (program_valid blocks_sorts 256 (length x.bytes)) resolves_nothing settles_whole
  program_resolve = program_resolves blocks_sorts 256 (length x.bytes) (blocks_bodies calls x) least blocks_fit

module _ {T V : Type 0} (calls : Calls T V) (holds : Context T → V → Type 0) (kept : AreKept calls holds) (x : Context T) where
  -- each body keeps what holds of the reader
  documents_keep : (n : BlockName) → Keeps (holds x) (document_body calls x n)
  documents_keep state_block.DocumentContainerExistingAfter = (λ c. kept.went_on x c.machine c.tokenize_state c.point, tt)
  documents_keep state_block.DocumentContainerNewBefore = (λ c. kept.marked x c.machine (length c.events), (tt, tt))
  documents_keep state_block.DocumentContainerNewAfter = (λ c. kept.begun x c.machine c.tokenize_state c.point, tt)
  documents_keep state_block.DocumentContainersAfter =
      ((λ c. kept.ended x c.machine c.tokenize_state c.point, tt), (λ c. kept.flow_begun x c.machine c.tokenize_state c.point, (tt, tt)))
  documents_keep state_block.DocumentFlowInside = ((λ c. kept.ended x c.machine c.tokenize_state c.point, tt), (tt, tt))
  documents_keep state_block.DocumentFlowEnd =
      ((λ c. kept.ended x c.machine c.tokenize_state c.point, tt), (λ c. kept.flow_read x c.machine c.tokenize_state c.point, tt))
  documents_keep n = none_keeps (holds x) (document_body calls x n) refl

  groups_keep : (g : Group) (n : BlockName) → Keeps (holds x) (blocks_body calls x g n)
  groups_keep groups.Leaves n = none_keeps (holds x) (leaves_body x n) (leaves_move_none V x n)
  groups_keep groups.Containers n = none_keeps (holds x) (container_body x n) (containers_move_none V x n)
  groups_keep groups.Document n = documents_keep n
  groups_keep g n = tt

  parts_keep : (g : InlineGroup) (n : InlineName) → Keeps (holds x) (blocks_part calls x g n)
  parts_keep inline_groups.Labels n = none_keeps (holds x) (label_body x n) (labels_move_none V x n)
  parts_keep g n = tt

  bodies_keep : (n : Name) → Keeps (holds x) (blocks_bodies calls x n)
  unfolding blocks_bodies
  bodies_keep (Block n) = groups_keep (block_group n) n
  bodies_keep (Inline n) = parts_keep (inline_group n) n

  pub blocks_lawful : LawfulAt (length x.bytes) (blocks_valid (length x.bytes) (holds x)) (step_by (blocks_bodies calls x))
      (program_rank blocks_sorts 256 (length x.bytes))
  blocks_lawful = lawful_with (holds x) (program_valid blocks_sorts 256 (length x.bytes)) (length x.bytes) (step_by (blocks_bodies calls x))
      (program_rank blocks_sorts 256 (length x.bytes)) (program calls x) (λ c n h. run_keeps (holds x) (blocks_bodies calls x n) (bodies_keep n) c h)

  pub blocks_resolve : ResolvesAt {M = V} (blocks_valid (length x.bytes) (holds x)) resolves_nothing settles_whole
  blocks_resolve =
      resolves_with (holds x) (program_valid blocks_sorts 256 (length x.bytes)) resolves_nothing settles_whole (program_resolve calls x)

-- what is open where a state is called
pub blocks_open : {T V : Type 0} (calls : Calls T V) (x : Context T) (c : Config V) (stack : List Attempt) (n : Name)
    → program_valid blocks_sorts 256 (length x.bytes) c stack (states.Retry n)
    → (rest : List EventName) × (open_after [] c.events ≡ names_of c.tokenize_state (blocks_sorts n).open_tokens ++ rest)
blocks_open calls x c stack n h =
    program_open blocks_sorts 256 (length x.bytes) (blocks_bodies calls x) (least calls x) (blocks_fit calls x) c stack n h

-- reading may begin with a document
pub blocks_begin : {V : Type 0} (size : ℕ) (holds : V → Type 0) (machine : V) (p : Point) → holds machine
    → blocks_valid size holds (fresh_config p machine) [] (states.Next (Block state_block.DocumentStart))
blocks_begin size holds machine p h = (program_begins blocks_sorts 256 size (Block state_block.DocumentStart) machine p refl refl refl refl, h)
