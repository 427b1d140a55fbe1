-- Rows of named character references as a text, a line for each name.
--
--     row  ::= name '=' code ('+' code)?
--     name ::= 1 to 31 letters and digits
--     code ::= 1 to 6 hexadecimal digits of a scalar value
use Rattle.std.specs.Prelude.{ℕ, Bool, if◌then◌else◌, ◌==◌, ◌&&◌, ◌||◌, nat_le, nat_lt, List, [], ◌∷◌, ◌++◌, Option, None, Some, length, encode_utf8}
use Rattle.std.specs.Char.{is_ascii_alphanumeric, is_ascii_hexdigit}
use Rattle.std.specs.Int.{is_in_range}
use Rattle.std.specs.List.{list_all, filter_map, find, before_first, after_first, take_while}
use Rattle.std.specs.Option.{option_map, option_and_then}
use Rattle.std.specs.Str.{bytes_eq}
use Rattle.std.specs.Str.Parse.{digits_value}
use Rattle.definition_text.specs.Ascii.{plus, equals}
use Rattle.definition_text.specs.Bytes.{after_all}
use Rattle.definition_text.specs.Lines.{lines}

-- a name, and the text that it stands for
pub record Row : Type 0 where
  pub name : List ℕ
  pub text : List ℕ

abbrev pub row : List ℕ → List ℕ → Row
row name text = record { name = name; text = text }

abbrev pub is_name : List ℕ → Bool
is_name name = nat_le 1 (length name) && nat_le (length name) 31 && list_all is_ascii_alphanumeric name

-- a code point but for the surrogates
abbrev pub is_scalar : ℕ → Bool
is_scalar code = nat_lt code 0xD800 || is_in_range 0xE000 0x10FFFF code

abbrev pub is_code : List ℕ → Bool
is_code digits =
    nat_le 1 (length digits) && nat_le (length digits) 6 && list_all is_ascii_hexdigit digits && is_scalar (digits_value 16 digits)

-- the character of a code
abbrev pub scalar_text : List ℕ → Option (List ℕ)
scalar_text digits = if is_code digits then Some (encode_utf8 (digits_value 16 digits)) else None

-- what follows the first code: nothing, or `+` and a code
abbrev pub second_text : List ℕ → Option (List ℕ)
second_text [] = Some []
second_text (b ∷ bs) = if b == plus then scalar_text bs else None

-- the characters of one or two codes
abbrev pub codes_text : List ℕ → Option (List ℕ)
codes_text bytes =
    option_and_then (λ first. option_map (λ second. first ++ second) (second_text (after_all is_ascii_hexdigit bytes)))
    (scalar_text (take_while is_ascii_hexdigit bytes))

-- the row that a line is
abbrev pub row_of : List ℕ → Option Row
row_of line =
    let name = before_first (λ b. b == equals) line in
    if is_name name then option_map (row name) (codes_text (after_first (λ b. b == equals) line)) else None

-- the rows of a text
abbrev pub rows : List ℕ → List Row
rows text = filter_map (λ line. row_of line.content) (lines text)

-- the text of a name in rows: that of the first row with that name
abbrev pub text_in : List Row → List ℕ → Option (List ℕ)
text_in rows name = option_map (λ row. row.text) (find (λ row. bytes_eq row.name name) rows)
