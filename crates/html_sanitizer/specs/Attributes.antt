-- The attributes of a tag, cut from it from left to right. A tag is a list of codes, in which CR LF may be one code or two.
use Rattle.std.specs.Prelude.{ℕ, zero, suc, Bool, false, if◌then◌else◌, ◌==◌, ◌&&◌, List, [], ◌∷◌, Option, None, Some, codes, map, take, drop}
use Rattle.std.proofs.Common.{Bor}
use Rattle.std.specs.List.{flat_map, prefix_len, take_while}
use Rattle.std.specs.Option.{option_map}
use Rattle.std.specs.Str.{bytes_eq}
use Rattle.definition_text.specs.Ascii.{double_quote, single_quote}
use Rattle.definition_text.specs.Bytes.{begins_with, after_all, lower}
use Rattle.definition_text.specs.Columns.{Code}
use Rattle.definition_text.specs.Content.{Part, part}
use Rattle.definition_inline.specs.CharacterReference.{Names}
use Rattle.definition_inline.specs.HtmlTags.{is_attribute_byte, is_tag_space, is_unquoted, begins_with_attribute}
use Rattle.definition_inline.specs.HtmlText.{html_byte}
use Rattle.definition_page.specs.Tags as tags
use Rattle.definition_html.specs.Attributes.{Written, decoded, first_of, if_written}
use Rattle.html_sanitizer.specs.declared.attributes.Written as code

-- ---- one attribute

-- white space in a tag
abbrev pub is_space_code : Code → Bool
is_space_code code = is_tag_space (html_byte code)

abbrev pub after_space : List Code → List Code
after_space html = after_all is_space_code html

abbrev pub is_unquoted_code : Code → Bool
is_unquoted_code code = is_unquoted (html_byte code)

-- a code is ahead of a text
abbrev pub ahead : Code → Part → Part
ahead c p = part (c ∷ p.text) p.rest

-- a text up to a quote, and what follows the quote
abbrev pub quoted : Code → List Code → Option Part
quoted quote [] = None
quoted quote (c ∷ cs) = if c == quote then Some (part [] cs) else option_map (ahead c) (quoted quote cs)

-- a value without quotes, of so many codes, and what follows it
abbrev pub unquoted : ℕ → List Code → Option Part
unquoted size html = if size == 0 then None else Some (part (take size html) (drop size html))

-- a value, without its quotes, and what follows it
abbrev pub split_value : List Code → Option Part
split_value [] = None
split_value (c ∷ cs) =
    if c == double_quote then quoted double_quote cs
    else (if c == single_quote then quoted single_quote cs else unquoted (prefix_len is_unquoted_code (c ∷ cs)) (c ∷ cs))

-- an attribute as it is written: its name, and its value without quotes
pub record Attribute : Type 0 where
  pub name : List Code
  pub value : List Code

abbrev pub attribute : List Code → List Code → Attribute
attribute name value = record { name = name; value = value }

-- an attribute, and what follows it
pub record SplitAttribute : Type 0 where
  pub attribute : Attribute
  pub rest : List Code

abbrev pub split : Attribute → List Code → SplitAttribute
split a rest = record { attribute = a; rest = rest }

abbrev pub with_value : List Code → Part → SplitAttribute
with_value name p = split (attribute name p.text) p.rest

-- an attribute of this name, by what follows the name, with white space and without
abbrev pub named : List Code → List Code → List Code → Option SplitAttribute
named name after specified =
    if begins_with (codes "=") specified then option_map (with_value name) (split_value (after_space (drop 1 specified)))
    else Some (split (attribute name []) after)

-- an attribute whose name begins here
abbrev pub split_attribute : List Code → Option SplitAttribute
split_attribute html =
    let after = after_all is_attribute_byte html in named (take_while is_attribute_byte html) after (after_space after)

abbrev pub begins_with_space : List Code → Bool
begins_with_space [] = false
begins_with_space (c ∷ cs) = is_space_code c

-- what follows white space, if an attribute begins there
abbrev pub attribute_start : List Code → Option (List Code)
attribute_start html =
    let start = after_space html in if begins_with_space html && begins_with_attribute start then Some start else None

-- ---- all attributes

abbrev pub cut_then : Option SplitAttribute → (List Code → List Attribute) → List Attribute
cut_then None others = []
cut_then (Some found) others = found.attribute ∷ others found.rest

abbrev pub cut_from : Option (List Code) → (List Code → List Attribute) → List Attribute
cut_from None others = []
cut_from (Some start) others = cut_then (split_attribute start) others

-- the attributes that follow the name of a tag, at most so many
abbrev pub cut : ℕ → List Code → List Attribute
cut zero html = []
cut (suc most) html = cut_from (attribute_start html) (cut most)

abbrev pub rest_then : Option SplitAttribute → (List Code → List Code) → List Code
rest_then None others = []
rest_then (Some found) others = others found.rest

abbrev pub rest_from : List Code → Option (List Code) → (List Code → List Code) → List Code
rest_from html None others = html
rest_from html (Some start) others = rest_then (split_attribute start) others

-- what follows them; nothing after one that has no end
abbrev pub rest_after : ℕ → List Code → List Code
rest_after zero html = html
rest_after (suc most) html = rest_from html (attribute_start html) (rest_after most)

-- ---- what the code has

-- an attribute with its value decoded
abbrev pub read_attribute : Names → Attribute → Written
read_attribute names a = record { name = lower a.name; value = decoded names a.value }

abbrev pub attribute_of : code.Written → Attribute
attribute_of w = attribute w.name.now w.value.now

abbrev pub attributes_of : List code.Written → List Attribute
attributes_of items = map attribute_of items

-- two parts of a text
abbrev pub part_of : Option (Bor (List ℕ) × Bor (List ℕ)) → Option Part
part_of None = None
part_of (Some p) = Some (part p.0.now p.1.now)

abbrev pub split_of : Option (code.Written × Bor (List ℕ)) → Option SplitAttribute
split_of None = None
split_of (Some p) = Some (split (attribute_of p.0) p.1.now)

-- the value of the first attribute of this name, with its references
abbrev pub first_value : List ℕ → List Attribute → Option (List ℕ)
first_value name [] = None
first_value name (a ∷ others) = if bytes_eq name (lower a.name) then Some a.value else first_value name others

-- the attributes with these names, in this order
abbrev pub named_attributes : List (List ℕ) → List Written → List tags.Attribute
named_attributes names ws = flat_map (λ a. if_written a (first_of a ws)) names
