-- Rests with which nothing begins but text.
use Rattle.std.specs.Prelude.{ℕ, Bool, false, not, ◌==◌, ◌&&◌, ◌||◌, leb, List, [], ◌∷◌, codes}
use Rattle.markdown_options.specs.declared.configuration.Constructs.{Constructs}
use Rattle.definition_text.specs.Ascii.{number_sign, dollar, asterisk, plus, hyphen, colon, less_than, equals, greater_than, left_bracket, underscore, backtick}
use Rattle.definition_text.specs.Ascii.{vertical_bar, tilde}
use Rattle.definition_text.specs.Bytes.{begins_with}
use Rattle.definition_block.specs.ListItem.{is_digit}
use Rattle.definition_text.specs.Columns.{Rest, is_white, indent, bare, bytes_of}

-- a byte that a block of CommonMark other than a paragraph may begin with: `#`, `*`, `+`, `-`, `<`, `=`, `>`, `_`, `` ` ``, `~` or a digit
abbrev pub begins_standard_block : ℕ → Bool
begins_standard_block b =
    (b == number_sign) || (b == asterisk) || (b == plus) || (b == hyphen) || (b == less_than) || (b == equals) || (b == greater_than)
    || (b == underscore) || (b == backtick) || (b == tilde) || is_digit b

-- a byte that math or a row of delimiters may begin with, where these are on: `$`, `:` or `|`
abbrev pub begins_extension : Constructs → ℕ → Bool
begins_extension on b = ((b == dollar) && on.math_flow) || (((b == colon) || (b == vertical_bar)) && on.gfm_table)

abbrev pub begins_block : Constructs → ℕ → Bool
begins_block on b = begins_standard_block b || begins_extension on b

-- another, and no white space
abbrev pub is_plain_byte : Constructs → ℕ → Bool
is_plain_byte on b = not (is_white b || begins_block on b)

-- a byte and those after it that a footnote definition may begin with, where these are on: `[^`
abbrev pub begins_footnote : Constructs → ℕ → List ℕ → Bool
begins_footnote on b bs = on.gfm_footnote_definition && ((b == left_bracket) && begins_with (codes "^") bs)

-- a text that begins with such a byte, and with no footnote definition
abbrev pub begins_plain : Constructs → List ℕ → Bool
begins_plain on [] = false
begins_plain on (b ∷ bs) = is_plain_byte on b && not (begins_footnote on b bs)

-- such a text after an indent of at most three columns
abbrev pub is_plain : Constructs → Rest → Bool
is_plain on rest = leb (indent rest) 3 && begins_plain on (bytes_of (bare rest))
