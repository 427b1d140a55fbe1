-- The text of a code span, in bytes.
use Rattle.std.specs.Prelude.{ℕ, Bool, not, ◌==◌, ◌&&◌, List, map}
use Rattle.definition_text.specs.Ascii.{line_feed, carriage_return}
use Rattle.definition_inline.specs.CodeText.{code_space}
use Rattle.definition_text.specs.Content.{content_codes}

-- a byte that begins no line ending
abbrev pub is_in_line : ℕ → Bool
is_in_line b = not (b == line_feed) && not (b == carriage_return)

-- with a space for each line ending
abbrev pub spaces_for_endings : List ℕ → List ℕ
spaces_for_endings bytes = map code_space (content_codes bytes)
