-- How a character is shown in a message.
use Rattle.std.specs.Prelude.{ℕ, ◌+◌, ◌/◌, ◌%◌, ◌==◌, ◌||◌, nat_lt, if◌then◌else◌, List, [], ◌∷◌, ◌++◌, codes, Option, None, Some}

-- the last hexadecimal digit of a number
abbrev pub hex_digit : ℕ → ℕ
hex_digit n = if nat_lt (n % 16) 10 then 48 + n % 16 else 55 + n % 16

-- the digits before the last four, without zeros in front
abbrev pub high_digits : ℕ → List ℕ
high_digits c =
    if nat_lt c 65536 then []
    else if nat_lt c 1048576 then hex_digit (c / 65536) ∷ []
    else hex_digit (c / 1048576) ∷ hex_digit (c / 65536) ∷ []

-- `U+` and a code, of at least four digits
abbrev pub code_text : ℕ → List ℕ
code_text c =
    codes "U+" ++ high_digits c
    ++ hex_digit (c / 4096) ∷ hex_digit (c / 256) ∷ hex_digit (c / 16) ∷ hex_digit c ∷ []

-- the character between backticks, of which it needs two if it is one
abbrev pub in_backticks : ℕ → List ℕ
in_backticks c = if c == 96 then codes "`` ` ``" else 96 ∷ c ∷ 96 ∷ []

-- the code, after the character itself if it is one from `!` to `~`
abbrev pub character_text : ℕ → List ℕ
character_text c = if nat_lt c 33 || nat_lt 126 c then code_text c else in_backticks c ++ codes " (" ++ code_text c ++ codes ")"

abbrev pub text_or_end : Option ℕ → List ℕ
text_or_end None = codes "end of file"
text_or_end (Some c) = character_text c
