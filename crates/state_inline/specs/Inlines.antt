-- What the machine of texts and strings does: its states by their names, and that they fit the table.
use Rattle.std.specs.Prelude.{ℕ, Bool, false, List, Option, slice_get, unwrap_or}
use Rattle.engine_states.specs.declared.state.Inline.{Inline as InlineName}
use Rattle.engine_states.specs.declared.state.Inline.TheVariants as state_inline
use Rattle.engine_states.specs.declared.state.Name.{Name}
use Rattle.engine_states.specs.declared.state.Name.TheVariants.{Inline}
use Rattle.engine_states.specs.declared.state.State.TheVariants as states
use Rattle.markdown_engine.specs.Context.{Context}
use Rattle.engine_programs.specs.Bodies.{Body, Answer, Test, Tries}
use Rattle.state_table.specs.declared.Group.{Group}
use Rattle.state_table.specs.declared.Group.TheVariants as groups
use Rattle.state_table.specs.Table.{inline_group}
use Rattle.state_table.specs.Words.{next, retry}
use Rattle.state_leaves.specs.LeafStates.{leaf_body}
use Rattle.state_html.specs.HtmlStates.{html_body}
use Rattle.state_labels.specs.LabelStates.{label_body}
use Rattle.state_label_ends.specs.EndStates.{end_body}
use Rattle.state_gfm.specs.GfmStates.{gfm_body}
use Rattle.state_inline.specs.declared.inlines.Inlines.{Inlines}
use Rattle.state_inline.specs.Strings.{string_start, string_before, string_before_data}
use Rattle.state_inline.specs.Text.{text_before, text_before_html, text_before_hard_break_escape, text_before_label_start_link, text_before_data}

-- a content that may begin with a check begins at an index
abbrev pub is_start : Inlines → ℕ → Bool
is_start machine index = unwrap_or (slice_get machine.starts.now index) false

-- at the start of a text: a check is tried where one may be
abbrev pub text_start : Body Inlines
text_start =
    Test (λ c. is_start c.machine c.point.index)
    (Tries false (next state_inline.TextBefore) (next state_inline.TextBefore) (retry state_inline.GfmTaskListItemCheckStart))
    (Answer (retry state_inline.TextBefore))

abbrev pub whole_body : InlineName → Body Inlines
whole_body state_inline.StringStart = string_start
whole_body state_inline.StringBefore = string_before
whole_body state_inline.StringBeforeData = string_before_data
whole_body state_inline.TextStart = text_start
whole_body state_inline.TextBefore = text_before
whole_body state_inline.TextBeforeHtml = text_before_html
whole_body state_inline.TextBeforeHardBreakEscape = text_before_hard_break_escape
whole_body state_inline.TextBeforeLabelStartLink = text_before_label_start_link
whole_body state_inline.TextBeforeData = text_before_data
whole_body n = Answer states.Nok

module _ {T : Type 0} (texts : List ℕ → Option (List ℕ)) (is_punctuation : ℕ → Bool) (x : Context T) where
  abbrev pub body_of : Group → InlineName → Body Inlines
  body_of groups.Leaves n = leaf_body texts x n
  body_of groups.Html n = html_body x n
  body_of groups.Labels n = label_body x n
  body_of groups.Ends n = end_body x n
  body_of groups.Gfm n = gfm_body is_punctuation x n
  body_of groups.Whole n = whole_body n

  unfoldable pub bodies : Name → Body Inlines
  bodies (Inline n) = body_of (inline_group n) n
  bodies n = Answer states.Nok
