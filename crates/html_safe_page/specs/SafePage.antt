-- What a safe HTML page is.
use Rattle.std.specs.Prelude.{◌≡◌, ℕ, Bool, true, false, if◌then◌else◌, ◌==◌, ◌&&◌, List, [], ◌∷◌, ◌++◌, codes, IsTrue}
use Rattle.std.specs.List.{list_any, list_all}
use Rattle.std.specs.Str.{bytes_eq}
use Rattle.definition_text.specs.Ascii.{space, double_quote, ampersand, slash, less_than, greater_than}
use Rattle.definition_page.specs.Urls.{permits, href_protocols, src_protocols}
pub use Rattle.definition_html.specs.Letters.{Kind, And, Quote, Less, Greater, Plain, kind, spell_kind, spell_letter, spell_text}
use Rattle.html_safe_page.specs.Table.{Row, start_rows_of, void_rows_of}
use Rattle.html_safe_page.specs.declared.table.TagTable.{TagTable}
use Rattle.html_safe_page.specs.declared.table.TagTable.TheVariants.{Basic}

-- ---- tags

-- an attribute; its value is what its letters and references stand for
pub record Attribute : Type 0 where
  pub name : List ℕ
  pub value : List ℕ

pub record Tag : Type 0 where
  pub name : List ℕ
  pub attributes : List Attribute

-- what begins an attribute
abbrev pub attribute_start : List ℕ → List ℕ
attribute_start name = space ∷ (name ++ codes "=\"")

abbrev pub spell_attributes : List Attribute → List ℕ → List ℕ
spell_attributes [] after = after
spell_attributes (a ∷ others) after = attribute_start a.name ++ spell_text a.value (double_quote ∷ spell_attributes others after)

-- a tag after its `<` and before what ends it
abbrev pub spell_tag : Tag → List ℕ → List ℕ
spell_tag tag after = tag.name ++ spell_attributes tag.attributes after

-- ---- items

-- a list of items
pub data Items : Type 0 where
  End : Items
  -- a letter, spelled as it is or as a reference
  Letter : ℕ → Items → Items
  -- a void tag
  Void : Tag → Items → Items
  -- a start tag, items and the same end tag
  Element : Tag → Items → Items → Items

-- what ends a void tag within its `<` and `>`
abbrev pub void_end : List ℕ
void_end = codes " /"

-- items, before other bytes
abbrev pub spell_before : Items → List ℕ → List ℕ
spell_before End after = after
spell_before (Letter b items) after = spell_letter b ++ spell_before items after
spell_before (Void tag items) after = less_than ∷ spell_tag tag (void_end ++ (greater_than ∷ spell_before items after))
spell_before (Element tag inside items) after =
    less_than ∷ spell_tag tag (greater_than ∷ spell_before inside (less_than ∷ slash ∷ (tag.name ++ (greater_than ∷ spell_before items after))))

abbrev pub spell : Items → List ℕ
spell items = spell_before items []

-- items, and then other ones
abbrev pub join : Items → Items → Items
join End others = others
join (Letter b items) others = Letter b (join items others)
join (Void tag items) others = Void tag (join items others)
join (Element tag inside items) others = Element tag inside (join items others)

-- ---- which are safe

-- attributes have these names
abbrev pub are_named : List (List ℕ) → List Attribute → Bool
are_named [] [] = true
are_named [] (a ∷ others) = false
are_named (n ∷ ns) [] = false
are_named (n ∷ ns) (a ∷ others) = bytes_eq n a.name && are_named ns others

abbrev pub is_of_row : Tag → Row → Bool
is_of_row tag row = bytes_eq row.name tag.name && are_named row.attributes tag.attributes

-- a text begins with another one
abbrev pub begins_with : List ℕ → List ℕ → Bool
begins_with [] text = true
begins_with (p ∷ ps) [] = false
begins_with (p ∷ ps) (b ∷ bs) = if b == p then begins_with ps bs else false

-- the class of code begins so, and the text after it is free
abbrev pub language : List ℕ
language = codes "language-"

-- the only class of a tag other than `code`
abbrev pub class_of : List ℕ → List ℕ
class_of tag =
    if bytes_eq tag (codes "h2") then codes "sr-only"
    else (if bytes_eq tag (codes "section") then codes "footnotes" else codes "data-footnote-backref")

abbrev pub is_class : List ℕ → List ℕ → Bool
is_class tag value = if bytes_eq tag (codes "code") then begins_with language value else bytes_eq (class_of tag) value

abbrev pub alignments : List (List ℕ)
alignments = codes "left" ∷ codes "right" ∷ codes "center" ∷ []

-- attributes that are there or not, without a text
abbrev pub empty_names : List (List ℕ)
empty_names = codes "disabled" ∷ codes "checked" ∷ codes "data-footnotes" ∷ codes "data-footnote-ref" ∷ codes "data-footnote-backref" ∷ []

-- whether a tag may have an attribute with this value; any may stand in `id`, `start`, `alt`, `title`, `rel` and those named `aria-`
abbrev pub is_value : List ℕ → List ℕ → List ℕ → Bool
is_value tag name value =
    if bytes_eq name (codes "href") then permits href_protocols value
    else (if bytes_eq name (codes "src") then permits src_protocols value
    else (if bytes_eq name (codes "class") then is_class tag value
    else (if bytes_eq name (codes "type") then bytes_eq (codes "checkbox") value
    else (if bytes_eq name (codes "align") then list_any (λ a. bytes_eq a value) alignments
    else (if bytes_eq name (codes "loading") then bytes_eq (codes "lazy") value
    else (if list_any (λ n. bytes_eq n name) empty_names then bytes_eq [] value else true))))))

abbrev pub is_tag_of : List Row → Tag → Bool
is_tag_of rows tag = list_any (is_of_row tag) rows && list_all (λ a. is_value tag.name a.name a.value) tag.attributes

-- each tag is one of the table
abbrev pub is_safe_by : TagTable → Items → Bool
is_safe_by table End = true
is_safe_by table (Letter b items) = is_safe_by table items
is_safe_by table (Void tag items) = is_tag_of (void_rows_of table) tag && is_safe_by table items
is_safe_by table (Element tag inside items) = is_tag_of (start_rows_of table) tag && (is_safe_by table inside && is_safe_by table items)

-- items are a reading of a page, by a table
abbrev pub IsReadingBy : TagTable → List ℕ → Items → Type 0
IsReadingBy table page items = IsTrue (is_safe_by table items) × (spell items ≡ page)

-- a page has a reading
abbrev pub IsSafePageBy : TagTable → List ℕ → Type 0
IsSafePageBy table page = (items : Items) × IsReadingBy table page items

-- it has no second one
abbrev pub OneReading : Type 0
OneReading = (table : TagTable) (page : List ℕ) (a b : Items) → IsReadingBy table page a → IsReadingBy table page b → a ≡ b

-- ---- by the basic table

abbrev pub is_safe : Items → Bool
is_safe items = is_safe_by Basic items

abbrev pub IsReading : List ℕ → Items → Type 0
IsReading page items = IsReadingBy Basic page items

abbrev pub IsSafePage : List ℕ → Type 0
IsSafePage page = IsSafePageBy Basic page
