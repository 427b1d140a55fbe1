-- The states of this crate by their names.
use Rattle.engine_states.specs.declared.state.Block.{Block as BlockName}
use Rattle.engine_states.specs.declared.state.Block.TheVariants as state_block
use Rattle.engine_states.specs.declared.state.State.TheVariants as states
use Rattle.markdown_engine.specs.Context.{Context}
use Rattle.engine_programs.specs.Bodies.{Body, Answer}
use Rattle.state_content.specs.Content.{content_definition_before, content_definition_after, content_chunk_start}
use Rattle.state_content.specs.Content.{content_chunk_inside}
use Rattle.state_content.specs.Definition.{definition_start, definition_before, definition_label_after}
use Rattle.state_content.specs.Definition.{definition_label_nok, definition_marker_after, definition_destination_before}
use Rattle.state_content.specs.Definition.{definition_destination_after, definition_destination_missing, definition_after}
use Rattle.state_content.specs.Definition.{definition_after_whitespace, definition_title_before, definition_title_before_marker}
use Rattle.state_content.specs.Definition.{definition_title_after, definition_title_after_optional_whitespace}
use Rattle.state_content.specs.Paragraph.{paragraph_start, paragraph_line_start, paragraph_inside}

module _ {T M : Type 0} (x : Context T) where
  abbrev pub content_body : BlockName → Body M
  content_body state_block.ContentDefinitionBefore = content_definition_before
  content_body state_block.ContentDefinitionAfter = content_definition_after
  content_body state_block.ContentChunkStart = content_chunk_start
  content_body state_block.ContentChunkInside = content_chunk_inside
  content_body state_block.DefinitionStart = definition_start x.options.constructs
  content_body state_block.DefinitionBefore = definition_before
  content_body state_block.DefinitionLabelAfter = definition_label_after
  content_body state_block.DefinitionLabelNok = definition_label_nok
  content_body state_block.DefinitionMarkerAfter = definition_marker_after
  content_body state_block.DefinitionDestinationBefore = definition_destination_before
  content_body state_block.DefinitionDestinationAfter = definition_destination_after
  content_body state_block.DefinitionDestinationMissing = definition_destination_missing
  content_body state_block.DefinitionAfter = definition_after
  content_body state_block.DefinitionAfterWhitespace = definition_after_whitespace
  content_body state_block.DefinitionTitleBefore = definition_title_before
  content_body state_block.DefinitionTitleBeforeMarker = definition_title_before_marker
  content_body state_block.DefinitionTitleAfter = definition_title_after
  content_body state_block.DefinitionTitleAfterOptionalWhitespace = definition_title_after_optional_whitespace
  content_body state_block.ParagraphStart = paragraph_start
  content_body state_block.ParagraphLineStart = paragraph_line_start
  content_body state_block.ParagraphInside = paragraph_inside
  content_body n = Answer states.Nok
