-- The states of this crate by their names, and that they fit the table.
use Rattle.std.specs.Prelude.{◌≡◌, true, refl}
use Rattle.engine_states.specs.declared.state.Inline.{Inline as InlineName}
use Rattle.engine_states.specs.declared.state.Inline.TheVariants as state_inline
use Rattle.engine_states.specs.declared.state.Name.TheVariants.{Inline}
use Rattle.engine_states.specs.declared.state.State.TheVariants as states
use Rattle.markdown_engine.specs.Context.{Context}
use Rattle.state_table.specs.declared.Group.TheVariants as groups
use Rattle.engine_programs.specs.Bodies.{Body, Answer}
use Rattle.engine_programs.specs.Sorts.{fits, implies}
use Rattle.state_table.specs.Table.{is_in, sorts}
use Rattle.state_html.specs.Autolink.{autolink_start, autolink_open, autolink_scheme_or_email_atext, autolink_scheme_inside_or_email_atext}
use Rattle.state_html.specs.Autolink.{autolink_url_inside, autolink_email_atext, autolink_email_at_sign_or_dot, autolink_email_label}
use Rattle.state_html.specs.Autolink.{autolink_email_value}
use Rattle.state_html.specs.HtmlText.{html_text_start, html_text_open, html_text_declaration_open, html_text_comment_open_inside, html_text_comment}
use Rattle.state_html.specs.HtmlText.{html_text_comment_close, html_text_comment_end, html_text_cdata_open_inside, html_text_cdata}
use Rattle.state_html.specs.HtmlText.{html_text_cdata_close, html_text_cdata_end, html_text_declaration, html_text_instruction}
use Rattle.state_html.specs.HtmlText.{html_text_instruction_close, html_text_tag_close_start, html_text_tag_close, html_text_tag_close_between}
use Rattle.state_html.specs.HtmlText.{html_text_tag_open, html_text_tag_open_between, html_text_tag_open_attribute_name}
use Rattle.state_html.specs.HtmlText.{html_text_tag_open_attribute_name_after, html_text_tag_open_attribute_value_before}
use Rattle.state_html.specs.HtmlText.{html_text_tag_open_attribute_value_quoted, html_text_tag_open_attribute_value_unquoted}
use Rattle.state_html.specs.HtmlText.{html_text_tag_open_attribute_value_quoted_after, html_text_end, html_text_line_ending_before}
use Rattle.state_html.specs.HtmlText.{html_text_line_ending_after, html_text_line_ending_after_prefix}

module _ {T M : Type 0} (x : Context T) where
  abbrev pub html_body : InlineName → Body M
  html_body state_inline.AutolinkStart = autolink_start x.options.constructs.autolink
  html_body state_inline.AutolinkOpen = autolink_open
  html_body state_inline.AutolinkSchemeOrEmailAtext = autolink_scheme_or_email_atext
  html_body state_inline.AutolinkSchemeInsideOrEmailAtext = autolink_scheme_inside_or_email_atext
  html_body state_inline.AutolinkUrlInside = autolink_url_inside
  html_body state_inline.AutolinkEmailAtext = autolink_email_atext
  html_body state_inline.AutolinkEmailAtSignOrDot = autolink_email_at_sign_or_dot
  html_body state_inline.AutolinkEmailLabel = autolink_email_label
  html_body state_inline.AutolinkEmailValue = autolink_email_value
  html_body state_inline.HtmlTextStart = html_text_start x.options.constructs.html_text
  html_body state_inline.HtmlTextOpen = html_text_open
  html_body state_inline.HtmlTextDeclarationOpen = html_text_declaration_open
  html_body state_inline.HtmlTextCommentOpenInside = html_text_comment_open_inside
  html_body state_inline.HtmlTextComment = html_text_comment
  html_body state_inline.HtmlTextCommentClose = html_text_comment_close
  html_body state_inline.HtmlTextCommentEnd = html_text_comment_end
  html_body state_inline.HtmlTextCdataOpenInside = html_text_cdata_open_inside
  html_body state_inline.HtmlTextCdata = html_text_cdata
  html_body state_inline.HtmlTextCdataClose = html_text_cdata_close
  html_body state_inline.HtmlTextCdataEnd = html_text_cdata_end
  html_body state_inline.HtmlTextDeclaration = html_text_declaration
  html_body state_inline.HtmlTextInstruction = html_text_instruction
  html_body state_inline.HtmlTextInstructionClose = html_text_instruction_close
  html_body state_inline.HtmlTextTagCloseStart = html_text_tag_close_start
  html_body state_inline.HtmlTextTagClose = html_text_tag_close
  html_body state_inline.HtmlTextTagCloseBetween = html_text_tag_close_between
  html_body state_inline.HtmlTextTagOpen = html_text_tag_open
  html_body state_inline.HtmlTextTagOpenBetween = html_text_tag_open_between
  html_body state_inline.HtmlTextTagOpenAttributeName = html_text_tag_open_attribute_name
  html_body state_inline.HtmlTextTagOpenAttributeNameAfter = html_text_tag_open_attribute_name_after
  html_body state_inline.HtmlTextTagOpenAttributeValueBefore = html_text_tag_open_attribute_value_before
  html_body state_inline.HtmlTextTagOpenAttributeValueQuoted = html_text_tag_open_attribute_value_quoted
  html_body state_inline.HtmlTextTagOpenAttributeValueUnquoted = html_text_tag_open_attribute_value_unquoted
  html_body state_inline.HtmlTextTagOpenAttributeValueQuotedAfter = html_text_tag_open_attribute_value_quoted_after
  html_body state_inline.HtmlTextEnd = html_text_end
  html_body state_inline.HtmlTextLineEndingBefore = html_text_line_ending_before
  html_body state_inline.HtmlTextLineEndingAfter = html_text_line_ending_after
  html_body state_inline.HtmlTextLineEndingAfterPrefix = html_text_line_ending_after_prefix
  html_body n = Answer states.Nok

-- they fit the table
pub html_fits : (M : Type 0) {T : Type 0} (x : Context T) (n : InlineName)
    → implies (is_in groups.Html n) (fits sorts 64 (Inline n) (html_body {M = M} x n)) ≡ true
html_fits M x state_inline.AutolinkStart = refl
html_fits M x n = refl
