-- What is open, as the definition has it.
use Rattle.std.specs.Prelude.{ℕ, Bool, true, false, List, [], None, codes, map, reverse, slice_index_or}
use Rattle.definition_inline.specs.Inline as inline
use Rattle.html_bytes.specs.Layout.{LayoutState}
use Rattle.definition_page.specs.Tags.{end_tag}
use Rattle.definition_page.specs.InlinePieces.{Meaning}
use Rattle.inline_runs.specs.View.{span_view}
use Rattle.inline_links.specs.declared.text.LinkTexts.{LinkTexts}
use Rattle.inline_rows.specs.declared.row.InlineRow.{InlineRow}
use Rattle.inline_rows.specs.declared.row.InlineRow.TheVariants.{Text, Verbatim, Leaf, Spelled, EnterSpan, EnterLink, EnterImage, Call, Exit}
use Rattle.inline_links.specs.View.{link_texts_view}
use Rattle.inline_rows.specs.View.{target_texts}
use Rattle.html_inline.specs.declared.stack.OpenPart.{OpenPart}
use Rattle.html_inline.specs.declared.stack.OpenPart.TheVariants as open_part
use Rattle.html_inline.specs.Printed.{OpenElement, new_part, PrintState, printed_at, span_end, image_end}

abbrev pub nowhere : inline.LinkTexts
nowhere = inline.link_texts [] None

-- where the definition at a place leads
abbrev pub place_target : List LinkTexts → ℕ → inline.LinkTexts
place_target definitions place = slice_index_or (map link_texts_view definitions) place nowhere

-- where the image leads that a row starts
abbrev pub image_target : (ℕ → inline.LinkTexts) → InlineRow → inline.LinkTexts
image_target at (Text text) = nowhere
image_target at (Verbatim verbatim) = nowhere
image_target at (Leaf part) = nowhere
image_target at (Spelled leaf) = nowhere
image_target at (EnterSpan span) = nowhere
image_target at (EnterLink target) = nowhere
image_target at (EnterImage target) = target_texts at target
image_target at (Call label) = nowhere
image_target at Exit = nowhere

module _ (meaning : Meaning) (at : ℕ → inline.LinkTexts) (rows : List InlineRow) where
  abbrev pub opened_view : OpenPart → OpenElement
  opened_view (open_part.Span span) = new_part false (span_end (span_view span))
  opened_view open_part.Link = new_part false (end_tag (codes "a"))
  opened_view (open_part.Image place) = new_part true (image_end meaning (image_target at (slice_index_or rows place Exit)))
  opened_view open_part.Silent = new_part true []

  -- what was laid out, and what is open, the innermost last
  abbrev pub printed_of : LayoutState → List OpenPart → PrintState
  printed_of laid stack = printed_at laid (map opened_view (reverse stack))

-- whether the innermost one stands in the description of an image, or is an image
abbrev pub is_silent : OpenPart → Bool
is_silent (open_part.Span span) = false
is_silent open_part.Link = false
is_silent (open_part.Image place) = true
is_silent open_part.Silent = true
