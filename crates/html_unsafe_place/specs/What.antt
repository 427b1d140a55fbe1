-- What isn't safe.
use Rattle.std.specs.Prelude.{ℕ, Bool, if◌then◌else◌, ◌==◌, List, [], ◌∷◌, codes}
use Rattle.std.specs.List.{list_any, take_while}
use Rattle.std.specs.Str.{bytes_eq}
use Rattle.std.specs.Char.{is_ascii_alphanumeric}
use Rattle.definition_text.specs.Ascii.{double_quote, slash, less_than, greater_than}
use Rattle.html_unsafe_place.specs.declared.what.Unsafe.{Unsafe}
use Rattle.html_unsafe_place.specs.declared.what.Unsafe.TheVariants.{QuotationMark, GreaterThan, Ampersand, LessThan, EndTag, TagName, Attributes, OpenElements}

-- the names of the tags of safe pages
unfoldable pub tag_names : List (List ℕ)
tag_names =
    codes "a" ∷ codes "blockquote" ∷ codes "br" ∷ codes "code" ∷ codes "del" ∷ codes "em"
    ∷ codes "h1" ∷ codes "h2" ∷ codes "h3" ∷ codes "h4" ∷ codes "h5" ∷ codes "h6" ∷ codes "hr"
    ∷ codes "img" ∷ codes "input" ∷ codes "li" ∷ codes "mark" ∷ codes "ol" ∷ codes "p" ∷ codes "pre"
    ∷ codes "section" ∷ codes "strong" ∷ codes "sup" ∷ codes "table" ∷ codes "tbody" ∷ codes "td"
    ∷ codes "th" ∷ codes "thead" ∷ codes "tr" ∷ codes "ul" ∷ []

abbrev pub is_tag_name : List ℕ → Bool
is_tag_name name = list_any (λ n. bytes_eq n name) tag_names

abbrev pub is_name_byte : ℕ → Bool
is_name_byte b = is_ascii_alphanumeric b

-- a tag with this name
abbrev pub unsafe_name : List ℕ → Unsafe
unsafe_name [] = LessThan
unsafe_name (b ∷ bs) = if is_tag_name (b ∷ bs) then Attributes else TagName

-- the bytes after `<`
abbrev pub unsafe_tag : List ℕ → Unsafe
unsafe_tag [] = LessThan
unsafe_tag (b ∷ bs) = if b == slash then EndTag else unsafe_name (take_while is_name_byte (b ∷ bs))

-- what is at a place that isn't safe, by the bytes from there on
abbrev pub unsafe_at : List ℕ → Unsafe
unsafe_at [] = OpenElements
unsafe_at (b ∷ bs) = if b == double_quote then QuotationMark else (if b == greater_than then GreaterThan
    else (if b == less_than then unsafe_tag bs else Ampersand))
