-- Tags as data: a name, and attributes with what their values say.
use Rattle.std.specs.Prelude.{ℕ, List, [], ◌∷◌, ◌++◌, codes}
use Rattle.std.specs.List.{flat_map}
use Rattle.std.specs.Fmt.{decimal}
use Rattle.definition_text.specs.Columns.{Code}
use Rattle.definition_text.specs.Encode.{encode, plain}
use Rattle.definition_inline.specs.Strings.{eol_bytes}

-- a part of what is printed: text, in which the four bytes of HTML are references; HTML as it is; HTML that is kept by the list; the code of a line ending; or a
-- number
pub data PrintedPart : Type 0 where
  Words : List ℕ → PrintedPart
  AsItIs : List ℕ → PrintedPart
  Marked : List ℕ → PrintedPart
  EndOfLine : Code → PrintedPart
  Number : ℕ → PrintedPart

-- HTML that is kept by the list is printed as text in an element without a name, of which `listed` makes tags; where there is none, nothing
abbrev pub marked : List ℕ → List ℕ
marked [] = []
marked (b ∷ bs) = codes "<>" ++ encode (b ∷ bs) ++ codes "</>"

abbrev pub said_bytes : PrintedPart → List ℕ
said_bytes (Words text) = encode text
said_bytes (AsItIs html) = plain html
said_bytes (Marked html) = marked html
said_bytes (EndOfLine code) = eol_bytes code
said_bytes (Number n) = decimal n

pub record Attribute : Type 0 where
  pub name : List ℕ
  pub value : List PrintedPart

-- an attribute whose value is a text
abbrev pub attribute : List ℕ → List ℕ → Attribute
attribute name text = record { name = name; value = Words text ∷ [] }

abbrev pub attribute_bytes : Attribute → List ℕ
attribute_bytes a = codes " " ++ a.name ++ codes "=\"" ++ flat_map said_bytes a.value ++ codes "\""

pub record Tag : Type 0 where
  pub name : List ℕ
  pub attributes : List Attribute

abbrev pub tag : List ℕ → List Attribute → Tag
tag name attributes = record { name = name; attributes = attributes }

-- a tag without attributes
abbrev pub bare_tag : List ℕ → Tag
bare_tag name = tag name []

-- a tag after its `<`, before what ends it
abbrev pub tag_bytes : Tag → List ℕ
tag_bytes t = t.name ++ flat_map attribute_bytes t.attributes

abbrev pub start_tag : Tag → List ℕ
start_tag t = codes "<" ++ tag_bytes t ++ codes ">"

abbrev pub end_tag : List ℕ → List ℕ
end_tag name = codes "</" ++ name ++ codes ">"

-- a tag of an element that holds nothing
abbrev pub void_tag : Tag → List ℕ
void_tag t = codes "<" ++ tag_bytes t ++ codes " />"
