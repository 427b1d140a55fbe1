-- What a machine of documents does, by what it does with its flow: its states by their names, and how they may stand.
use Rattle.std.specs.Prelude.{ℕ}
use Rattle.engine_states.specs.declared.state.Block.{Block as BlockName}
use Rattle.engine_states.specs.declared.state.Inline.{Inline as InlineName}
use Rattle.engine_states.specs.declared.state.Name.{Name}
use Rattle.engine_states.specs.declared.state.Name.TheVariants.{Block, Inline}
use Rattle.engine_states.specs.declared.state.State.TheVariants as states
use Rattle.markdown_engine.specs.Context.{Context}
use Rattle.markdown_engine.specs.Laws.{HoldsAt}
use Rattle.engine_programs.specs.Bodies.{Body, Answer}
use Rattle.engine_programs.specs.Sorts.{Sort}
use Rattle.engine_programs.specs.Stacks.{program_valid}
use Rattle.state_table.specs.declared.Group.{Group as InlineGroup}
use Rattle.state_table.specs.declared.Group.TheVariants as inline_groups
use Rattle.state_table.specs.Table.{inline_group, first}
use Rattle.state_table.specs.declared.block.Group.{Group}
use Rattle.state_table.specs.declared.block.Group.TheVariants as groups
use Rattle.state_table.specs.BlockTable.{block_group, block_row, label_sort}
use Rattle.state_labels.specs.LabelStates.{label_body}
use Rattle.state_document.specs.Readers.{Calls}
use Rattle.state_flow_leaves.specs.LeavesStates.{leaves_body}
use Rattle.state_containers.specs.ContainerStates.{container_body}
use Rattle.state_document.specs.DocumentStates.{document_body}

-- a state of another machine may begin here, and fails
abbrev pub blocks_sort : Group → BlockName → Sort
blocks_sort groups.Leaves n = (block_row n).sort
blocks_sort groups.Containers n = (block_row n).sort
blocks_sort groups.Document n = (block_row n).sort
blocks_sort g n = first 4

abbrev pub blocks_sorts : Name → Sort
blocks_sorts (Block n) = blocks_sort (block_group n) n
blocks_sorts (Inline n) = label_sort (inline_group n) n

-- what holds whenever a state is next, in a text of so many bytes: of the machine what its reader asks for
abbrev pub blocks_valid : {V : Type 0} → ℕ → (V → Type 0) → HoldsAt V
blocks_valid size holds c stack s = program_valid blocks_sorts 256 size c stack s × holds c.machine

module _ {T V : Type 0} (calls : Calls T V) (x : Context T) where
  abbrev pub blocks_body : Group → BlockName → Body V
  blocks_body groups.Leaves n = leaves_body x n
  blocks_body groups.Containers n = container_body x n
  blocks_body groups.Document n = document_body calls x n
  blocks_body g n = Answer states.Nok

  abbrev pub blocks_part : InlineGroup → InlineName → Body V
  blocks_part inline_groups.Labels n = label_body x n
  blocks_part g n = Answer states.Nok

  unfoldable pub blocks_bodies : Name → Body V
  blocks_bodies (Block n) = blocks_body (block_group n) n
  blocks_bodies (Inline n) = blocks_part (inline_group n) n
