-- Thematic breaks (CommonMark 4.1).
use Rattle.std.specs.Prelude.{ℕ, Bool, false, ◌==◌, ◌&&◌, ◌||◌, leb, List, [], ◌∷◌}
use Rattle.std.specs.List.{list_all, count_by}
use Rattle.markdown_options.specs.declared.configuration.Constructs.{Constructs}
use Rattle.definition_text.specs.Ascii.{asterisk, hyphen, underscore}
use Rattle.definition_text.specs.Columns.{Rest, bare, bytes_of, is_white}
use Rattle.definition_text.specs.Indents.{small_indent}

-- `*`, `-` or `_`
abbrev pub is_break_marker : ℕ → Bool
is_break_marker byte = (byte == asterisk) || (byte == hyphen) || (byte == underscore)

-- this byte, spaces and tabs, and the byte at least three times
abbrev pub is_break_by : ℕ → List ℕ → Bool
is_break_by marker text = list_all (λ b. (b == marker) || is_white b) text && leb 3 (count_by (λ b. b == marker) text)

-- the first byte says of which marker the break is
abbrev pub is_break_text : List ℕ → Bool
is_break_text [] = false
is_break_text (b ∷ bs) = is_break_marker b && is_break_by b (b ∷ bs)

-- whether the line is a break (CommonMark 4.1)
abbrev pub is_break : Constructs → Rest → Bool
is_break on rest = on.thematic_break && small_indent on rest && is_break_text (bytes_of (bare rest))
