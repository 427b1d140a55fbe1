-- A page with raw HTML as text in elements without a name.
use Rattle.std.specs.Prelude.{◌≡◌, ℕ, Bool, true, false, if◌then◌else◌, ◌&&◌, List, [], ◌∷◌, IsTrue}
use Rattle.std.specs.Str.{bytes_eq}
use Rattle.html_safe_page.specs.Table.{start_rows_of, void_rows_of}
use Rattle.html_safe_page.specs.declared.table.TagTable.{TagTable}
use Rattle.html_safe_page.specs.SafePage.{Attribute, Tag, Items, End, Letter, Void, Element, spell, is_tag_of}

abbrev pub has_none : List Attribute → Bool
has_none [] = true
has_none (a ∷ others) = false

-- a tag without a name and without attributes
abbrev pub is_nameless : Tag → Bool
is_nameless tag = bytes_eq tag.name [] && has_none tag.attributes

-- items are letters only
abbrev pub are_letters : Items → Bool
are_letters End = true
are_letters (Letter b items) = are_letters items
are_letters (Void tag items) = false
are_letters (Element tag inside items) = false

-- items of a safe page by a table, and elements without a name that hold letters only
abbrev pub is_marked : TagTable → Items → Bool
is_marked table End = true
is_marked table (Letter b items) = is_marked table items
is_marked table (Void tag items) = is_tag_of (void_rows_of table) tag && is_marked table items
is_marked table (Element tag inside items) =
    (if is_nameless tag then are_letters inside else is_tag_of (start_rows_of table) tag && is_marked table inside) && is_marked table items

-- such items are a reading of a page
abbrev pub IsMarkedPage : TagTable → List ℕ → Type 0
IsMarkedPage table page = (items : Items) × IsTrue (is_marked table items) × (spell items ≡ page)
