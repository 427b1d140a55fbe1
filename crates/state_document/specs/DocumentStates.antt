-- The states of this crate by their names.
use Rattle.engine_states.specs.declared.state.Block.{Block as BlockName}
use Rattle.engine_states.specs.declared.state.Block.TheVariants as state_block
use Rattle.engine_states.specs.declared.state.State.TheVariants as states
use Rattle.markdown_engine.specs.Context.{Context}
use Rattle.engine_programs.specs.Bodies.{Body, Answer}
use Rattle.state_document.specs.Readers.{Calls}
use Rattle.state_document.specs.Document.{document_start, document_before_frontmatter, document_container_existing_before}
use Rattle.state_document.specs.Document.{document_container_existing_after, document_container_new_before}
use Rattle.state_document.specs.Document.{document_container_new_before_not_block_quote, document_container_new_before_not_list}
use Rattle.state_document.specs.Document.{document_container_new_before_not_gfm_footnote_definition, document_container_new_after}
use Rattle.state_document.specs.Document.{document_containers_after, document_flow_inside, document_flow_end}

module _ {T V : Type 0} (calls : Calls T V) (x : Context T) where
  abbrev pub document_body : BlockName → Body V
  document_body state_block.DocumentStart = document_start
  document_body state_block.DocumentBeforeFrontmatter = document_before_frontmatter
  document_body state_block.DocumentContainerExistingBefore = document_container_existing_before
  document_body state_block.DocumentContainerExistingAfter = document_container_existing_after calls x
  document_body state_block.DocumentContainerNewBefore = document_container_new_before calls x
  document_body state_block.DocumentContainerNewBeforeNotBlockQuote = document_container_new_before_not_block_quote
  document_body state_block.DocumentContainerNewBeforeNotList = document_container_new_before_not_list
  document_body state_block.DocumentContainerNewBeforeNotGfmFootnoteDefinition = document_container_new_before_not_gfm_footnote_definition
  document_body state_block.DocumentContainerNewAfter = document_container_new_after calls x
  document_body state_block.DocumentContainersAfter = document_containers_after calls x
  document_body state_block.DocumentFlowInside = document_flow_inside calls x
  document_body state_block.DocumentFlowEnd = document_flow_end calls x
  document_body n = Answer states.Nok
