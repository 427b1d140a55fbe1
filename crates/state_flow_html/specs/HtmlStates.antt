-- The states of this crate by their names, and that they fit the table.
use Rattle.std.specs.Prelude.{◌≡◌, true, refl}
use Rattle.engine_states.specs.declared.state.Block.{Block as BlockName}
use Rattle.engine_states.specs.declared.state.Block.TheVariants as state_block
use Rattle.engine_states.specs.declared.state.Name.TheVariants.{Block}
use Rattle.engine_states.specs.declared.state.State.TheVariants as states
use Rattle.markdown_engine.specs.Context.{Context}
use Rattle.state_table.specs.declared.block.Group.TheVariants as groups
use Rattle.engine_programs.specs.Bodies.{Body, Answer}
use Rattle.engine_programs.specs.Sorts.{fits, implies}
use Rattle.state_table.specs.BlockTable.{block_sorts, is_in_group}
use Rattle.state_flow_html.specs.HtmlFlow.{html_flow_start, html_flow_before, html_flow_open}
use Rattle.state_flow_html.specs.HtmlFlow.{html_flow_declaration_open, html_flow_comment_open_inside, html_flow_cdata_open_inside}
use Rattle.state_flow_html.specs.HtmlFlow.{html_flow_tag_close_start, html_flow_tag_name, html_flow_basic_self_closing}
use Rattle.state_flow_html.specs.HtmlFlow.{html_flow_complete_closing_tag_after, html_flow_complete_attribute_name_before}
use Rattle.state_flow_html.specs.HtmlFlow.{html_flow_complete_attribute_name}
use Rattle.state_flow_html.specs.HtmlFlow.{html_flow_complete_attribute_name_after, html_flow_complete_attribute_value_before}
use Rattle.state_flow_html.specs.HtmlFlow.{html_flow_complete_attribute_value_quoted}
use Rattle.state_flow_html.specs.HtmlFlow.{html_flow_complete_attribute_value_unquoted, html_flow_complete_attribute_value_quoted_after}
use Rattle.state_flow_html.specs.HtmlFlow.{html_flow_complete_end}
use Rattle.state_flow_html.specs.HtmlFlow.{html_flow_complete_after, html_flow_continuation, html_flow_continuation_start}
use Rattle.state_flow_html.specs.HtmlFlow.{html_flow_continuation_start_non_lazy, html_flow_continuation_before}
use Rattle.state_flow_html.specs.HtmlFlow.{html_flow_continuation_comment_inside}
use Rattle.state_flow_html.specs.HtmlFlow.{html_flow_continuation_raw_tag_open, html_flow_continuation_raw_end_tag}
use Rattle.state_flow_html.specs.HtmlFlow.{html_flow_continuation_cdata_inside}
use Rattle.state_flow_html.specs.HtmlFlow.{html_flow_continuation_declaration_inside, html_flow_continuation_close, html_flow_continuation_after}
use Rattle.state_flow_html.specs.HtmlFlow.{html_flow_blank_line_before}

module _ {T M : Type 0} (x : Context T) where
  abbrev pub html_body : BlockName → Body M
  html_body state_block.HtmlFlowStart = html_flow_start x.options.constructs
  html_body state_block.HtmlFlowBefore = html_flow_before
  html_body state_block.HtmlFlowOpen = html_flow_open
  html_body state_block.HtmlFlowDeclarationOpen = html_flow_declaration_open
  html_body state_block.HtmlFlowCommentOpenInside = html_flow_comment_open_inside
  html_body state_block.HtmlFlowCdataOpenInside = html_flow_cdata_open_inside
  html_body state_block.HtmlFlowTagCloseStart = html_flow_tag_close_start
  html_body state_block.HtmlFlowTagName = html_flow_tag_name x.bytes
  html_body state_block.HtmlFlowBasicSelfClosing = html_flow_basic_self_closing
  html_body state_block.HtmlFlowCompleteClosingTagAfter = html_flow_complete_closing_tag_after
  html_body state_block.HtmlFlowCompleteAttributeNameBefore = html_flow_complete_attribute_name_before
  html_body state_block.HtmlFlowCompleteAttributeName = html_flow_complete_attribute_name
  html_body state_block.HtmlFlowCompleteAttributeNameAfter = html_flow_complete_attribute_name_after
  html_body state_block.HtmlFlowCompleteAttributeValueBefore = html_flow_complete_attribute_value_before
  html_body state_block.HtmlFlowCompleteAttributeValueQuoted = html_flow_complete_attribute_value_quoted
  html_body state_block.HtmlFlowCompleteAttributeValueUnquoted = html_flow_complete_attribute_value_unquoted
  html_body state_block.HtmlFlowCompleteAttributeValueQuotedAfter = html_flow_complete_attribute_value_quoted_after
  html_body state_block.HtmlFlowCompleteEnd = html_flow_complete_end
  html_body state_block.HtmlFlowCompleteAfter = html_flow_complete_after
  html_body state_block.HtmlFlowContinuation = html_flow_continuation
  html_body state_block.HtmlFlowContinuationStart = html_flow_continuation_start
  html_body state_block.HtmlFlowContinuationStartNonLazy = html_flow_continuation_start_non_lazy
  html_body state_block.HtmlFlowContinuationBefore = html_flow_continuation_before
  html_body state_block.HtmlFlowContinuationCommentInside = html_flow_continuation_comment_inside
  html_body state_block.HtmlFlowContinuationRawTagOpen = html_flow_continuation_raw_tag_open
  html_body state_block.HtmlFlowContinuationRawEndTag = html_flow_continuation_raw_end_tag x.bytes
  html_body state_block.HtmlFlowContinuationCdataInside = html_flow_continuation_cdata_inside
  html_body state_block.HtmlFlowContinuationDeclarationInside = html_flow_continuation_declaration_inside
  html_body state_block.HtmlFlowContinuationClose = html_flow_continuation_close
  html_body state_block.HtmlFlowContinuationAfter = html_flow_continuation_after
  html_body state_block.HtmlFlowBlankLineBefore = html_flow_blank_line_before
  html_body n = Answer states.Nok

-- they fit the table
pub html_fits : (M : Type 0) {T : Type 0} (x : Context T) (n : BlockName)
    → implies (is_in_group groups.Html n) (fits block_sorts 64 (Block n) (html_body {M = M} x n)) ≡ true
html_fits M x state_block.HtmlFlowStart = refl
html_fits M x n = refl
