-- The tags of HTML (CommonMark 6.6). The code 10 stands for a line ending. A part of a tag is given by what follows it, where bytes begin with such a part.
use Rattle.std.specs.Prelude.{ℕ, suc, zero, Bool, false, not, if◌then◌else◌, ◌==◌, ◌&&◌, ◌||◌, List, [], ◌∷◌, Option, None, Some, drop, length, codes}
use Rattle.std.specs.List.{take_while}
use Rattle.definition_text.specs.Ascii.{line_feed, double_quote, single_quote, hyphen, dot, colon, less_than, equals, greater_than, underscore, backtick}
use Rattle.definition_text.specs.Columns.{is_white}
use Rattle.definition_text.specs.Bytes.{is_letter, is_letter_or_digit, begins_with, after_all, without_slash}

-- a part, if there is one, and another after it
abbrev pub then_part : Option (List ℕ) → (List ℕ → Option (List ℕ)) → Option (List ℕ)
then_part None part = None
then_part (Some rest) part = part rest

-- white space in a tag: spaces, tabs and a line ending
abbrev pub is_tag_space : ℕ → Bool
is_tag_space b = is_white b || (b == line_feed)

-- what follows optional white space
abbrev pub tag_space : List ℕ → List ℕ
tag_space bytes = after_all is_tag_space bytes

abbrev pub begins_with_tag_space : List ℕ → Bool
begins_with_tag_space [] = false
begins_with_tag_space (b ∷ bs) = is_tag_space b

-- a byte of a tag name after its first, which is a letter: a letter, a digit or `-`
abbrev pub is_tag_name_byte : ℕ → Bool
is_tag_name_byte b = is_letter_or_digit b || (b == hyphen)

-- the tag name that bytes begin with
abbrev pub tag_name : List ℕ → List ℕ
tag_name bytes = take_while is_tag_name_byte bytes

-- a tag name: a letter, and then letters, digits and `-`
abbrev pub after_tag_name : List ℕ → Option (List ℕ)
after_tag_name [] = None
after_tag_name (b ∷ bs) = if is_letter b then Some (after_all is_tag_name_byte bs) else None

-- the first byte of an attribute name: a letter, `_` or `:`
abbrev pub begins_attribute : ℕ → Bool
begins_attribute b = is_letter b || (b == underscore) || (b == colon)

-- a later byte of an attribute name: a letter, a digit, `_`, `.`, `:` or `-`
abbrev pub is_attribute_byte : ℕ → Bool
is_attribute_byte b = is_letter_or_digit b || (b == underscore) || (b == dot) || (b == colon) || (b == hyphen)

-- a byte of an unquoted attribute value: no white space, `"`, `'`, `=`, `<`, `>` or backtick
abbrev pub is_unquoted : ℕ → Bool
is_unquoted b =
    not (is_tag_space b || (b == double_quote) || (b == single_quote) || (b == equals) || (b == less_than) || (b == greater_than) || (b == backtick))

-- the rest of a quoted value, up to the quote that closes it
abbrev pub quoted_value : ℕ → List ℕ → Option (List ℕ)
quoted_value quote [] = None
quoted_value quote (b ∷ bs) = if b == quote then Some bs else quoted_value quote bs

-- an unquoted value, which isn't empty
abbrev pub unquoted_value : List ℕ → Option (List ℕ)
unquoted_value [] = None
unquoted_value (b ∷ bs) = if is_unquoted b then Some (after_all is_unquoted bs) else None

-- an attribute value
abbrev pub value : List ℕ → Option (List ℕ)
value [] = None
value (b ∷ bs) = if b == double_quote then quoted_value double_quote bs else (if b == single_quote then quoted_value single_quote bs
    else unquoted_value (b ∷ bs))

-- `=`, optional white space and a value; without a `=` what follows is given
abbrev pub value_or : List ℕ → List ℕ → Option (List ℕ)
value_or other [] = Some other
value_or other (b ∷ bs) = if b == equals then value (tag_space bs) else Some other

-- an optional value specification: optional white space and the rest of it
abbrev pub specification : List ℕ → Option (List ℕ)
specification bytes = value_or bytes (tag_space bytes)

-- an attribute: its name, and an optional value specification
abbrev pub attribute : List ℕ → Option (List ℕ)
attribute [] = None
attribute (b ∷ bs) = if begins_attribute b then specification (after_all is_attribute_byte bs) else None

abbrev pub begins_with_attribute : List ℕ → Bool
begins_with_attribute [] = false
begins_with_attribute (b ∷ bs) = begins_attribute b

-- whether white space and an attribute come next
abbrev pub has_attribute : List ℕ → Bool
has_attribute bytes = begins_with_tag_space bytes && begins_with_attribute (tag_space bytes)

-- attributes, each after white space; at most so many
abbrev pub attributes : ℕ → List ℕ → Option (List ℕ)
attributes zero bytes = Some bytes
attributes (suc most) bytes = if has_attribute bytes then then_part (attribute (tag_space bytes)) (attributes most) else Some bytes

-- `>`
abbrev pub tag_end : List ℕ → Option (List ℕ)
tag_end [] = None
tag_end (b ∷ bs) = if b == greater_than then Some bs else None

-- the end of an open tag: optional white space, an optional `/` and `>`
abbrev pub open_end : List ℕ → Option (List ℕ)
open_end bytes = tag_end (without_slash (tag_space bytes))

-- the end of a closing tag: optional white space and `>`
abbrev pub closing_end : List ℕ → Option (List ℕ)
closing_end bytes = tag_end (tag_space bytes)

-- an open tag after its `<`: a tag name, attributes, of which each has a byte at least, and the end
abbrev pub open_rest : List ℕ → Option (List ℕ)
open_rest bytes = then_part (then_part (after_tag_name bytes) (attributes (length bytes))) open_end

-- a closing tag after its `</`: a tag name, and the end
abbrev pub closing_rest : List ℕ → Option (List ℕ)
closing_rest bytes = then_part (after_tag_name bytes) closing_end

-- what follows the open tag that bytes begin with (CommonMark 6.6)
abbrev pub open_tag : List ℕ → Option (List ℕ)
open_tag bytes = if begins_with (codes "<") bytes then open_rest (drop 1 bytes) else None

-- what follows the closing tag that bytes begin with (CommonMark 6.6)
abbrev pub closing_tag : List ℕ → Option (List ℕ)
closing_tag bytes = if begins_with (codes "</") bytes then closing_rest (drop 2 bytes) else None
