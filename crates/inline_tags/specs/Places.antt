-- The places in a tag, by which it is read byte by byte.
use Rattle.std.specs.Prelude.{ℕ, if◌then◌else◌, ◌==◌, List, [], ◌∷◌, Option, None, Some}
use Rattle.definition_text.specs.Ascii.{double_quote, single_quote, slash, equals, greater_than}
use Rattle.definition_text.specs.Bytes.{is_letter}
use Rattle.definition_inline.specs.HtmlTags.{is_tag_space, is_tag_name_byte, begins_attribute, is_attribute_byte, is_unquoted}

-- a place in a tag
pub data Place : Type 0 where
  -- after `<`, in the tag name, and after white space where an attribute may begin
  NameStart : Place
  Name : Place
  Space : Place
  -- in an attribute name, after white space that follows one, and after `=`
  Attribute : Place
  AttributeSpace : Place
  Equals : Place
  -- in an attribute value, and after a quoted one
  Unquoted : Place
  DoubleQuoted : Place
  SingleQuoted : Place
  Quoted : Place
  -- after `/`
  Slash : Place
  -- of a closing tag: after `</`, in the tag name, and after white space that follows it
  ClosingStart : Place
  ClosingName : Place
  ClosingSpace : Place
  -- after the `>` of a tag, and where no tag is
  End : Place
  Nowhere : Place

-- `>` ends a tag
abbrev pub at_end : ℕ → Place
at_end b = if b == greater_than then End else Nowhere

-- after a name or a value of an open tag: white space, `/` or `>`
abbrev pub after_part : ℕ → Place
after_part b = if is_tag_space b then Space else (if b == slash then Slash else at_end b)

-- after white space that follows a name or a value: an attribute, or as before
abbrev pub after_space : ℕ → Place
after_space b = if begins_attribute b then Attribute else after_part b

-- after an attribute name: white space, `=`, `/` or `>`
abbrev pub after_attribute : ℕ → Place
after_attribute b = if is_tag_space b then AttributeSpace else (if b == equals then Equals else after_part b)

-- after `=`: white space, or the first byte of a value
abbrev pub after_equals : ℕ → Place
after_equals b =
    if is_tag_space b then Equals
    else (if b == double_quote then DoubleQuoted
    else (if b == single_quote then SingleQuoted
    else (if is_unquoted b then Unquoted else Nowhere)))

-- after the name of a closing tag: white space or `>`
abbrev pub after_closing_name : ℕ → Place
after_closing_name b = if is_tag_space b then ClosingSpace else at_end b

-- the place after one more byte
abbrev pub next : Place → ℕ → Place
next NameStart b = if is_letter b then Name else Nowhere
next Name b = if is_tag_name_byte b then Name else after_part b
next Space b = after_space b
next Attribute b = if is_attribute_byte b then Attribute else after_attribute b
next AttributeSpace b = if begins_attribute b then Attribute else after_attribute b
next Equals b = after_equals b
next Unquoted b = if is_unquoted b then Unquoted else after_part b
next DoubleQuoted b = if b == double_quote then Quoted else DoubleQuoted
next SingleQuoted b = if b == single_quote then Quoted else SingleQuoted
next Quoted b = after_part b
next Slash b = at_end b
next ClosingStart b = if is_letter b then ClosingName else Nowhere
next ClosingName b = if is_tag_name_byte b then ClosingName else after_closing_name b
next ClosingSpace b = after_closing_name b
next End b = End
next Nowhere b = Nowhere

-- what follows a tag, at this place before these bytes: they do where the tag ends, nothing where no tag is, and else what later bytes give
abbrev pub tag_rest : Place → List ℕ → Option (List ℕ) → Option (List ℕ)
tag_rest End bytes later = Some bytes
tag_rest Nowhere bytes later = None
tag_rest place bytes later = later

-- what follows a tag that goes on from a place, if it ends
abbrev pub rest_after : Place → List ℕ → Option (List ℕ)
rest_after place [] = None
rest_after place (b ∷ bs) = tag_rest (next place b) bs (rest_after (next place b) bs)
