-- The reading of a page, found from its last byte to its first.
use Rattle.std.specs.Prelude.{ℕ, if◌then◌else◌, ◌==◌, List, [], ◌∷◌, Option, None, Some, codes}
use Rattle.std.specs.Option.{option_and_then, option_map, option_or}
use Rattle.std.specs.Str.{bytes_eq}
use Rattle.html_safe_page.specs.Table.{Row, start_rows_of, void_rows_of}
use Rattle.html_safe_page.specs.declared.table.TagTable.{TagTable}
pub use Rattle.definition_html.specs.Letters.{strip, replace, join_reference, join_kind, read_text}
use Rattle.html_safe_page.specs.SafePage.{Kind, And, Quote, Less, Greater, Plain, kind, Attribute, Tag, Items, End, Letter, Void, Element, attribute_start}
use Rattle.html_safe_page.specs.SafePage.{void_end, is_value}
use Rattle.definition_text.specs.Ascii.{double_quote, ampersand, slash, less_than, greater_than}

-- ---- tags

-- what stands before the first `"`, and after it
pub record QuotedText : Type 0 where
  pub inside : List ℕ
  pub rest : List ℕ

abbrev pub longer : ℕ → QuotedText → QuotedText
longer b q = record { inside = b ∷ q.inside; rest = q.rest }

abbrev pub before_quote : List ℕ → Option QuotedText
before_quote [] = None
before_quote (b ∷ bs) = if b == double_quote then Some (record { inside = []; rest = bs }) else option_map (longer b) (before_quote bs)

-- the value of the attribute of this name that bytes begin with, as it is spelled, and what follows its `"`
abbrev pub quoted_value : List ℕ → List ℕ → Option QuotedText
quoted_value name bytes = option_and_then before_quote (strip (attribute_start name) bytes)

abbrev pub read_value : List ℕ → List ℕ → List ℕ → Option (List ℕ)
read_value tag name bytes = option_and_then (λ v. if is_value tag name v then Some v else None) (read_text bytes)

abbrev pub attribute : List ℕ → List ℕ → Attribute
attribute name value = record { name = name; value = value }

-- attributes of these names in a tag, and what ends the tag
abbrev pub read_attributes : List ℕ → List (List ℕ) → List ℕ → List ℕ → Option (List Attribute)
read_attributes tag [] ending bytes = if bytes_eq bytes ending then Some [] else None
read_attributes tag (n ∷ ns) ending bytes =
    option_and_then (λ (q : QuotedText).
    option_and_then (λ v. option_map (λ others. attribute n v ∷ others) (read_attributes tag ns ending q.rest)) (read_value tag n q.inside))
    (quoted_value n bytes)

abbrev pub tag_of : List ℕ → List Attribute → Tag
tag_of name attributes = record { name = name; attributes = attributes }

abbrev pub read_row : List ℕ → List ℕ → Row → Option Tag
read_row ending bytes row = option_and_then (λ rest. option_map (tag_of row.name) (read_attributes row.name row.attributes ending rest)) (strip row.name bytes)

abbrev pub read_tag : List Row → List ℕ → List ℕ → Option Tag
read_tag [] ending bytes = None
read_tag (row ∷ rows) ending bytes = option_or (read_row ending bytes row) (read_tag rows ending bytes)

-- ---- pages

-- items up to the end; or up to an end tag of this name, and what follows it
pub data Rest : Type 0 where
  Last : Items → Rest
  Then : Items → List ℕ → Rest → Rest

-- what is read of the bytes from some place on: none that are a page's, these, or those of a tag and what follows it
pub data Reading : Type 0 where
  Nowhere : Reading
  Outside : Rest → Reading
  Inside : List ℕ → Rest → Reading

abbrev pub at_first : (Items → Items) → Rest → Rest
at_first f (Last items) = Last (f items)
at_first f (Then items name rest) = Then (f items) name rest

abbrev pub strip_letters : List ℕ → Items → Option Items
strip_letters [] items = Some items
strip_letters (p ∷ ps) End = None
strip_letters (p ∷ ps) (Letter b items) = if b == p then strip_letters ps items else None
strip_letters (p ∷ ps) (Void tag items) = None
strip_letters (p ∷ ps) (Element tag inside items) = None

abbrev pub replace_letters : ℕ → Option Items → Option Items
replace_letters b rest = option_map (Letter b) rest

abbrev pub join_letters : Items → Option Items
join_letters items =
    option_or (replace_letters ampersand (strip_letters (codes "amp;") items))
    (option_or (replace_letters double_quote (strip_letters (codes "quot;") items))
    (option_or (replace_letters less_than (strip_letters (codes "lt;") items))
    (replace_letters greater_than (strip_letters (codes "gt;") items))))

abbrev pub outside : Option Rest → Reading
outside None = Nowhere
outside (Some rest) = Outside rest

abbrev pub join_rest : Rest → Option Rest
join_rest (Last items) = option_map (λ i. Last i) (join_letters items)
join_rest (Then items name rest) = option_map (λ i. Then i name rest) (join_letters items)

-- what a start tag makes of what follows it
abbrev pub open_tag : Tag → Rest → Option Rest
open_tag tag (Last items) = None
open_tag tag (Then inside name rest) = if bytes_eq name tag.name then Some (at_first (Element tag inside) rest) else None

-- what a start tag, or else a void tag, makes of what follows it
abbrev pub open_or : Option Tag → Option Tag → Rest → Option Rest
open_or (Some tag) other rest = open_tag tag rest
open_or None (Some tag) rest = Some (at_first (Void tag) rest)
open_or None None rest = None

-- the bytes of a tag before what follows it
abbrev pub read_opening : TagTable → List ℕ → Rest → Option Rest
read_opening table bytes rest = open_or (read_tag (start_rows_of table) [] bytes) (read_tag (void_rows_of table) void_end bytes) rest

abbrev pub read_mark : TagTable → List ℕ → Rest → Option Rest
read_mark table [] rest = None
read_mark table (b ∷ bs) rest = if b == slash then Some (Then End bs rest) else read_opening table (b ∷ bs) rest

abbrev pub step : TagTable → Kind → ℕ → Reading → Reading
step table kind b Nowhere = Nowhere
step table And b (Outside rest) = outside (join_rest rest)
step table Quote b (Outside rest) = Nowhere
step table Less b (Outside rest) = Nowhere
step table Greater b (Outside rest) = Inside [] rest
step table Plain b (Outside rest) = Outside (at_first (Letter b) rest)
step table Less b (Inside bytes rest) = outside (read_mark table bytes rest)
step table Greater b (Inside bytes rest) = Nowhere
step table And b (Inside bytes rest) = Inside (b ∷ bytes) rest
step table Quote b (Inside bytes rest) = Inside (b ∷ bytes) rest
step table Plain b (Inside bytes rest) = Inside (b ∷ bytes) rest

abbrev pub read : TagTable → List ℕ → Reading
read table [] = Outside (Last End)
read table (b ∷ bs) = step table (kind b) b (read table bs)

abbrev pub whole : Reading → Option Items
whole Nowhere = None
whole (Inside bytes rest) = None
whole (Outside (Last items)) = Some items
whole (Outside (Then items name rest)) = None

abbrev pub read_page : TagTable → List ℕ → Option Items
read_page table page = whole (read table page)
