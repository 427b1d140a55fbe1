-- The states of this crate by their names.
use Rattle.engine_states.specs.declared.state.Block.{Block as BlockName}
use Rattle.engine_states.specs.declared.state.Block.TheVariants as state_block
use Rattle.engine_states.specs.declared.state.State.TheVariants as states
use Rattle.markdown_engine.specs.Context.{Context}
use Rattle.engine_programs.specs.Bodies.{Body, Answer}
use Rattle.state_containers.specs.BlockQuote.{block_quote_start, block_quote_cont_start, block_quote_cont_before}
use Rattle.state_containers.specs.BlockQuote.{block_quote_cont_after}
use Rattle.state_containers.specs.ListItem.{list_item_start, list_item_before, list_item_before_unordered}
use Rattle.state_containers.specs.ListItem.{list_item_before_ordered, list_item_value, list_item_marker}
use Rattle.state_containers.specs.ListItem.{list_item_marker_after, list_item_marker_after_filled, list_item_whitespace}
use Rattle.state_containers.specs.ListItem.{list_item_whitespace_after, list_item_prefix_other, list_item_after}
use Rattle.state_containers.specs.ListItem.{list_item_cont_start, list_item_cont_blank, list_item_cont_filled}
use Rattle.state_containers.specs.GfmFootnoteDefinition.{gfm_footnote_definition_start, gfm_footnote_definition_label_before}
use Rattle.state_containers.specs.GfmFootnoteDefinition.{gfm_footnote_definition_label_at_marker}
use Rattle.state_containers.specs.GfmFootnoteDefinition.{gfm_footnote_definition_label_inside, gfm_footnote_definition_label_escape}
use Rattle.state_containers.specs.GfmFootnoteDefinition.{gfm_footnote_definition_label_after}
use Rattle.state_containers.specs.GfmFootnoteDefinition.{gfm_footnote_definition_whitespace_after, gfm_footnote_definition_cont_start}
use Rattle.state_containers.specs.GfmFootnoteDefinition.{gfm_footnote_definition_cont_blank}
use Rattle.state_containers.specs.GfmFootnoteDefinition.{gfm_footnote_definition_cont_filled}
use Rattle.state_containers.specs.Bom.{bom_start, bom_inside}
use Rattle.state_containers.specs.Frontmatter.{frontmatter_start, frontmatter_open_sequence, frontmatter_open_after}
use Rattle.state_containers.specs.Frontmatter.{frontmatter_content_end, frontmatter_close_start, frontmatter_close_sequence}
use Rattle.state_containers.specs.Frontmatter.{frontmatter_close_after, frontmatter_content_start, frontmatter_content_inside}
use Rattle.state_containers.specs.Frontmatter.{frontmatter_after}

module _ {T M : Type 0} (x : Context T) where
  abbrev pub container_body : BlockName → Body M
  container_body state_block.BlockQuoteStart = block_quote_start x.options.constructs
  container_body state_block.BlockQuoteContStart = block_quote_cont_start x.options.constructs
  container_body state_block.BlockQuoteContBefore = block_quote_cont_before
  container_body state_block.BlockQuoteContAfter = block_quote_cont_after
  container_body state_block.ListItemStart = list_item_start x.options.constructs
  container_body state_block.ListItemBefore = list_item_before
  container_body state_block.ListItemBeforeUnordered = list_item_before_unordered
  container_body state_block.ListItemBeforeOrdered = list_item_before_ordered
  container_body state_block.ListItemValue = list_item_value
  container_body state_block.ListItemMarker = list_item_marker
  container_body state_block.ListItemMarkerAfter = list_item_marker_after
  container_body state_block.ListItemMarkerAfterFilled = list_item_marker_after_filled
  container_body state_block.ListItemWhitespace = list_item_whitespace
  container_body state_block.ListItemWhitespaceAfter = list_item_whitespace_after
  container_body state_block.ListItemPrefixOther = list_item_prefix_other
  container_body state_block.ListItemAfter = list_item_after
  container_body state_block.ListItemContStart = list_item_cont_start
  container_body state_block.ListItemContBlank = list_item_cont_blank
  container_body state_block.ListItemContFilled = list_item_cont_filled
  container_body state_block.GfmFootnoteDefinitionStart = gfm_footnote_definition_start x.options.constructs
  container_body state_block.GfmFootnoteDefinitionLabelBefore = gfm_footnote_definition_label_before
  container_body state_block.GfmFootnoteDefinitionLabelAtMarker = gfm_footnote_definition_label_at_marker
  container_body state_block.GfmFootnoteDefinitionLabelInside = gfm_footnote_definition_label_inside
  container_body state_block.GfmFootnoteDefinitionLabelEscape = gfm_footnote_definition_label_escape
  container_body state_block.GfmFootnoteDefinitionLabelAfter = gfm_footnote_definition_label_after
  container_body state_block.GfmFootnoteDefinitionWhitespaceAfter = gfm_footnote_definition_whitespace_after
  container_body state_block.GfmFootnoteDefinitionContStart = gfm_footnote_definition_cont_start
  container_body state_block.GfmFootnoteDefinitionContBlank = gfm_footnote_definition_cont_blank
  container_body state_block.GfmFootnoteDefinitionContFilled = gfm_footnote_definition_cont_filled
  container_body state_block.BomStart = bom_start
  container_body state_block.BomInside = bom_inside
  container_body state_block.FrontmatterStart = frontmatter_start x.options.constructs
  container_body state_block.FrontmatterOpenSequence = frontmatter_open_sequence
  container_body state_block.FrontmatterOpenAfter = frontmatter_open_after
  container_body state_block.FrontmatterContentEnd = frontmatter_content_end
  container_body state_block.FrontmatterCloseStart = frontmatter_close_start
  container_body state_block.FrontmatterCloseSequence = frontmatter_close_sequence
  container_body state_block.FrontmatterCloseAfter = frontmatter_close_after
  container_body state_block.FrontmatterContentStart = frontmatter_content_start
  container_body state_block.FrontmatterContentInside = frontmatter_content_inside
  container_body state_block.FrontmatterAfter = frontmatter_after
  container_body n = Answer states.Nok
