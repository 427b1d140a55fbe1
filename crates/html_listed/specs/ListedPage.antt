-- What a page is whose raw HTML is kept by the list, and what is proved of it.
use Rattle.std.specs.Prelude.{◌≡◌, ℕ, Bool, true, false, not, if◌then◌else◌, ◌&&◌, ◌||◌, List, [], ◌∷◌, ◌++◌, codes, IsTrue}
use Rattle.std.specs.List.{list_all}
use Rattle.std.specs.Str.{bytes_eq}
use Rattle.definition_page.specs.Urls.{permits, href_protocols, src_protocols}
use Rattle.html_safe_page.specs.Table.{start_rows_of, void_rows_of}
use Rattle.html_safe_page.specs.declared.table.TagTable.{TagTable}
use Rattle.html_safe_page.specs.SafePage.{Attribute, Tag, Items, End, Letter, Void, Element, spell, is_tag_of}
use Rattle.definition_html.specs.Listing.{is_in, is_listed, void_names, listed_attributes}

-- ---- tags of the list

-- the attributes with a URL that an element of this name may have
abbrev pub url_names : List ℕ → List (List ℕ)
url_names name = if bytes_eq name (codes "a") then codes "href" ∷ [] else (if bytes_eq name (codes "img") then codes "src" ∷ [] else [])

-- all attributes that it may have, in the order in which they are printed
abbrev pub attribute_names : List ℕ → List (List ℕ)
attribute_names name = url_names name ++ listed_attributes

-- attributes have some of these names, in this order, each at most once
abbrev pub are_some_of : List (List ℕ) → List Attribute → Bool
are_some_of [] [] = true
are_some_of [] (a ∷ others) = false
are_some_of (n ∷ ns) [] = true
are_some_of (n ∷ ns) (a ∷ others) = (bytes_eq n a.name && are_some_of ns others) || are_some_of ns (a ∷ others)

-- a URL has a protocol that is permitted, or none; any other value may be any text
abbrev pub is_listed_value : List ℕ → List ℕ → Bool
is_listed_value name value =
    if bytes_eq name (codes "href") then permits href_protocols value
    else (if bytes_eq name (codes "src") then permits src_protocols value else true)

-- a tag has a name and attributes of the list
abbrev pub is_listed_tag : Tag → Bool
is_listed_tag tag =
    is_listed tag.name && (are_some_of (attribute_names tag.name) tag.attributes && list_all (λ a. is_listed_value a.name a.value) tag.attributes)

-- a start tag of the list
abbrev pub is_listed_start : Tag → Bool
is_listed_start tag = not (is_in void_names tag.name) && is_listed_tag tag

-- a void tag of the list
abbrev pub is_listed_void : Tag → Bool
is_listed_void tag = is_in void_names tag.name && is_listed_tag tag

-- a start tag of the list, or one that a safe page has by a table
abbrev pub is_start : TagTable → Tag → Bool
is_start table tag = is_listed_start tag || is_tag_of (start_rows_of table) tag

-- and a void tag
abbrev pub is_void : TagTable → Tag → Bool
is_void table tag = is_listed_void tag || is_tag_of (void_rows_of table) tag

-- ---- pages

-- the start tags and the void tags of items pass these tests
abbrev pub have_tags : (Tag → Bool) → (Tag → Bool) → Items → Bool
have_tags start void End = true
have_tags start void (Letter b items) = have_tags start void items
have_tags start void (Void tag items) = void tag && have_tags start void items
have_tags start void (Element tag inside items) = start tag && (have_tags start void inside && have_tags start void items)

-- such items are a reading of a page
abbrev pub IsReadingWith : (Tag → Bool) → (Tag → Bool) → List ℕ → Items → Type 0
IsReadingWith start void page items = IsTrue (have_tags start void items) × (spell items ≡ page)

-- a page has such a reading
abbrev pub IsPageWith : (Tag → Bool) → (Tag → Bool) → List ℕ → Type 0
IsPageWith start void page = (items : Items) × IsReadingWith start void page items

-- items with tags of the list or of safe pages are a reading of a page
abbrev pub IsListedReading : TagTable → List ℕ → Items → Type 0
IsListedReading table page items = IsReadingWith (is_start table) (is_void table) page items

-- a page has such a reading: it is a safe page with elements of the list, too
abbrev pub IsListedPage : TagTable → List ℕ → Type 0
IsListedPage table page = IsPageWith (is_start table) (is_void table) page
