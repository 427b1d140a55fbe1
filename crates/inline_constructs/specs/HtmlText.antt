-- Raw HTML in the bytes of a content.
use Rattle.std.specs.Prelude.{◌≡◌, ◌<◌, ◌≤◌, ◌-◌, ◌==◌, ℕ, Bool, true, false, if◌then◌else◌, List, [], ◌∷◌, Option, None, codes, drop, length, map, slice_index}
use Rattle.std.specs.Option.{option_or}
use Rattle.definition_text.specs.Ascii.{carriage_return, greater_than, line_feed}
use Rattle.definition_text.specs.Content.{content_codes}
use Rattle.definition_text.specs.Bytes.{begins_with}
use Rattle.definition_inline.specs.HtmlText.{html_byte, marked_html}
use Rattle.inline_tags.specs.Places.{Place, NameStart, ClosingStart, End, next, tag_rest}

-- a content as the grammar of tags reads it
abbrev pub html_bytes : List ℕ → List ℕ
html_bytes content = map html_byte (content_codes content)

-- in a tag a line ending is LF
abbrev pub ending_as_feed : ℕ → ℕ
ending_as_feed b = if b == carriage_return then line_feed else b

abbrev pub is_end : Place → Bool
is_end End = true
is_end place = false

-- what follows a tag that goes on from a place, in bytes whose line endings are white space
abbrev pub tag_after : Place → List ℕ → Option (List ℕ)
tag_after place [] = None
tag_after place (b ∷ bs) = tag_rest (next place (ending_as_feed b)) bs (tag_after (next place (ending_as_feed b)) bs)

abbrev pub open_after : List ℕ → Option (List ℕ)
open_after bytes = if begins_with (codes "<") bytes then tag_after NameStart (drop 1 bytes) else None

abbrev pub closing_after : List ℕ → Option (List ℕ)
closing_after bytes = if begins_with (codes "</") bytes then tag_after ClosingStart (drop 2 bytes) else None

-- what follows raw HTML
abbrev pub html_after : List ℕ → Option (List ℕ)
html_after bytes = option_or (open_after bytes) (option_or (closing_after bytes) (marked_html bytes))

-- a place after a `>`
pub record IsClosed (bytes : List ℕ) (end : ℕ) : Type 0 where
  pub some : 0 < end
  pub within : end ≤ length bytes
  pub greater : slice_index bytes (end - 1) ≡ greater_than

-- a text that a `>` ends
pub record ClosesText (text : List ℕ) : Type 0 where
  pub some : 0 < length text
  pub greater : slice_index text (length text - 1) ≡ greater_than
