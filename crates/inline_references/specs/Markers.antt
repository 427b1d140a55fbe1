-- Markers: a byte that says how the value of a reference is written, `&` a name, `#` decimal digits, `x` hexadecimal ones.
use Rattle.std.specs.Prelude.{◌≡◌, ℕ, ◌<◌, ◌^◌, Bool, if◌then◌else◌, ◌==◌, ◌||◌, List, [], ◌∷◌, Option}
use Rattle.std.specs.Char.{is_ascii_digit, is_ascii_hexdigit, is_ascii_alphanumeric}
use Rattle.std.specs.Str.Parse.{IsNumeral, digits_value}
use Rattle.definition_text.specs.Ascii.{ampersand, number_sign, capital_x, small_x}
use Rattle.definition_inline.specs.CharacterReference.{CharacterName, Named, Numbered, Names, number_of, reference_text}

abbrev pub name_marker : ℕ
name_marker = ampersand

abbrev pub decimal_marker : ℕ
decimal_marker = number_sign

abbrev pub hexadecimal_marker : ℕ
hexadecimal_marker = small_x

abbrev pub is_marker : ℕ → Bool
is_marker marker = (marker == name_marker) || (marker == decimal_marker) || (marker == hexadecimal_marker)

-- the most bytes of a value with this marker
abbrev pub value_max : ℕ → ℕ
value_max marker = if marker == hexadecimal_marker then 6 else (if marker == decimal_marker then 7 else 31)

-- a byte that such a value may have
abbrev pub is_value_byte : ℕ → ℕ → Bool
is_value_byte marker b =
    if marker == hexadecimal_marker then is_ascii_hexdigit b
    else (if marker == decimal_marker then is_ascii_digit b else is_ascii_alphanumeric b)

-- the marker of a number, by the bytes after its `#`
abbrev pub number_marker : List ℕ → ℕ
number_marker [] = decimal_marker
number_marker (b ∷ bs) = if (b == small_x) || (b == capital_x) then hexadecimal_marker else decimal_marker

-- the marker of what begins with these bytes after its `&`
abbrev pub marker_of : List ℕ → ℕ
marker_of [] = name_marker
marker_of (b ∷ bs) = if b == number_sign then number_marker bs else name_marker

-- how many bytes stand between the `&` and the value
abbrev pub marker_size : ℕ → ℕ
marker_size marker = if marker == hexadecimal_marker then 2 else (if marker == decimal_marker then 1 else 0)

-- the name or the number that a value with this marker is
abbrev pub name_by : ℕ → List ℕ → CharacterName
name_by marker value =
    if marker == hexadecimal_marker then Numbered (number_of 16 value)
    else (if marker == decimal_marker then Numbered (number_of 10 value) else Named value)

-- the text that such a value stands for
abbrev pub value_text : Names → ℕ → List ℕ → Option (List ℕ)
value_text names marker value = reference_text names (name_by marker value)

abbrev pub is_radix : ℕ → Bool
is_radix radix = (radix == 10) || (radix == 16)

-- digits, at least one, of a number below 2^32
pub record IsNumber (radix : ℕ) (digits : List ℕ) : Type 0 where
  pub numeral : IsNumeral radix digits
  pub fits : digits_value radix digits < 2 ^ 32

-- a name, or digits of such a number
pub record IsDecodable (marker : ℕ) (value : List ℕ) : Type 0 where
  pub is_decimal : marker ≡ decimal_marker → IsNumber 10 value
  pub is_hexadecimal : marker ≡ hexadecimal_marker → IsNumber 16 value
