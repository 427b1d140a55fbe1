-- Where elements stand in a page whose raw HTML is kept by the list, given which are the page's own and which are raw.
use Rattle.std.specs.Prelude.{ℕ, Bool, true, not, if◌then◌else◌, ◌&&◌, ◌||◌, List, [], ◌∷◌}
use Rattle.std.specs.List.{list_any}
use Rattle.html_safe_page.specs.Table.{start_rows_of, void_rows_of}
use Rattle.html_safe_page.specs.declared.table.TagTable.{TagTable}
use Rattle.html_safe_page.specs.SafePage.{Tag, Items, End, Letter, Void, Element, join, is_tag_of}
use Rattle.definition_html.specs.Listing.{is_in, heading_names}
use Rattle.html_listed.specs.ListedPage.{is_listed_start, is_listed_void}
use Rattle.html_listed.specs.MarkedPage.{is_nameless}
use Rattle.html_listed.specs.Standing.{may_begin}
use Rattle.definition_html.specs.State.{Level, level, begins_with_frame}

-- items of a page: letters, void tags and elements of the page's own, and raw ones
pub data Mixed : Type 0 where
  Done : Mixed
  Char : ℕ → Mixed → Mixed
  OwnTag : Tag → Mixed → Mixed
  OwnElement : Tag → Mixed → Mixed → Mixed
  RawTag : Tag → Mixed → Mixed
  RawElement : Tag → Mixed → Mixed → Mixed

-- these items, wherever they are from
abbrev pub all_items : Mixed → Items
all_items Done = End
all_items (Char b items) = Letter b (all_items items)
all_items (OwnTag tag items) = Void tag (all_items items)
all_items (OwnElement tag inside items) = Element tag (all_items inside) (all_items items)
all_items (RawTag tag items) = Void tag (all_items items)
all_items (RawElement tag inside items) = Element tag (all_items inside) (all_items items)

-- the tags of the page's own
abbrev pub own_items : Mixed → Items
own_items Done = End
own_items (Char b items) = own_items items
own_items (OwnTag tag items) = Void tag (own_items items)
own_items (OwnElement tag inside items) = Element tag (own_items inside) (own_items items)
own_items (RawTag tag items) = own_items items
own_items (RawElement tag inside items) = join (own_items inside) (own_items items)

-- the tags of a page with raw HTML as text in elements without a name, but for these elements
abbrev pub tags_of : Items → Items
tags_of End = End
tags_of (Letter b items) = tags_of items
tags_of (Void tag items) = Void tag (tags_of items)
tags_of (Element tag inside items) = if is_nameless tag then tags_of items else Element tag (tags_of inside) (tags_of items)

-- ---- places

-- an own element stands right in no table, section or row that is raw, and as a heading in no raw heading of its level
abbrev pub own_may_begin : List (List ℕ) → List ℕ → Bool
own_may_begin names name = not (begins_with_frame names) && not (is_in heading_names name && list_any (is_in heading_names) names)

-- a raw element stands where it may among those of its level, and as a heading in no level of a heading
abbrev pub raw_may_begin : Level → List ℕ → Bool
raw_may_begin l name = may_begin l.names name && not (l.in_heading && is_in heading_names name)

-- the level of an own element
abbrev pub level_in : Level → List ℕ → Level
level_in l name = level (l.in_heading || is_in heading_names name || list_any (is_in heading_names) l.names) []

-- own tags are those of safe pages by a table, raw ones are of the list, and each stands where it may
abbrev pub stand_in : TagTable → Level → Mixed → Bool
stand_in table l Done = true
stand_in table l (Char b items) = stand_in table l items
stand_in table l (OwnTag tag items) = (is_tag_of (void_rows_of table) tag && not (begins_with_frame l.names)) && stand_in table l items
stand_in table l (OwnElement tag inside items) =
    (is_tag_of (start_rows_of table) tag && own_may_begin l.names tag.name) && (stand_in table (level_in l tag.name) inside && stand_in table l items)
stand_in table l (RawTag tag items) = (is_listed_void tag && not (begins_with_frame l.names)) && stand_in table l items
stand_in table l (RawElement tag inside items) =
    (is_listed_start tag && raw_may_begin l tag.name) && (stand_in table (level l.in_heading (tag.name ∷ l.names)) inside && stand_in table l items)
