-- The parts of a row of a table of names.
use Rattle.std.specs.Prelude.{◌≡◌, ℕ, ◌<◌, Bool, ◌==◌, ◌&&◌, nat_le, List, [], ◌++◌, Option, None, Some, length, encode_utf8}
use Rattle.std.specs.Char.{is_ascii_hexdigit}
use Rattle.std.specs.List.{after_first, before_first, list_all, position_or_len}
use Rattle.std.specs.Option.{option_and_then, option_map}
use Rattle.definition_inline.specs.ReferenceRows.{Row, row}
use Rattle.markdown_tables.specs.declared.row.Characters.{Characters}
use Rattle.markdown_tables.specs.declared.row.NamedCharacters.{NamedCharacters}

-- 1 to 6 hexadecimal digits
abbrev pub are_code_digits : List ℕ → Bool
are_code_digits digits = nat_le 1 (length digits) && nat_le (length digits) 6 && list_all is_ascii_hexdigit digits

abbrev pub is_plus : ℕ → Bool
is_plus b = b == 43

-- the bytes before and after the first `+`, which there is
pub record IsSplitAtPlus (codes first second : List ℕ) : Type 0 where
  pub before : first ≡ before_first is_plus codes
  pub after : second ≡ after_first is_plus codes
  pub within : position_or_len is_plus codes < length codes

-- one text and then the other, if both are there
abbrev pub both_texts : Option (List ℕ) → Option (List ℕ) → Option (List ℕ)
both_texts first second = option_and_then (λ one. option_map (λ two. one ++ two) second) first

abbrev pub second_text : Option ℕ → List ℕ
second_text None = []
second_text (Some code) = encode_utf8 code

-- the bytes of one or two characters
abbrev pub characters_text : Characters → List ℕ
characters_text characters = encode_utf8 characters.first ++ second_text characters.second

abbrev pub row_view : NamedCharacters → Row
row_view r = row r.name.now (characters_text r.characters)
