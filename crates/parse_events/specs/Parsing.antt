-- Where a parser stands in the rows of a text, and what it keeps of what is open (CommonMark 5).
use Rattle.std.specs.Prelude.{◌≡◌, ℕ, Bool, true, false, not, if◌then◌else◌, List, [], ◌∷◌, ◌++◌, Option, map, reverse}
use Rattle.markdown_options.specs.declared.configuration.Constructs.{Constructs}
use Rattle.markdown_options.specs.declared.container.Item.{Item as ItemParts}
use Rattle.definition_block.specs.Container.{Container, Quote, Item, Footnote}
use Rattle.definition_block.specs.Tree.{Block, Blocks, Nil as NoBlock, join, one as one_block, is_ending}
use Rattle.definition_page.specs.Read.{Reading}
use Rattle.block_rows.specs.Rows.{BlockRow}
use Rattle.engine_events.specs.declared.event.Name.TheVariants.{ListItem}
use Rattle.event_grammar.specs.Trees.{Nodes}
use Rattle.parse_output.specs.Children.{may_enter}
use Rattle.parse_lines.specs.Open.{still_open}
use Rattle.html_looseness.specs.declared.loose.Place.{Place as ItemPlace}
use Rattle.parse_output.specs.Written.{Exits, IsInOrder, forest_in}
use Rattle.parse_laid.specs.Begun.{begun, ends_line, is_in_line}
use Rattle.parse_laid.specs.Laid.{IsRowLaid}
use Rattle.parse_laid.specs.Places.{LineRest, Place, Between, Within}
use Rattle.parse_open.specs.Open.{Fits, Holder, InContainer, InList, Level, Opened, after_row, bare_container, first_marker, in_list, is_in_list, list_end}
use Rattle.parse_open.specs.Open as open_blocks
use Rattle.parse_open.specs.Filled.{marker_list}
use Rattle.parse_open.specs.Levels.{IsOfList, innermost, list_name}
use Rattle.parse_open.specs.Steps.{next_stands}
use Rattle.parse_lines.specs.declared.walk.Walk.{Walk}
use Rattle.parse_lines.specs.Ends.{written_to}
use Rattle.parse_lines.specs.Standing.{standing}
use Rattle.parse_events.specs.declared.parser.Parser.{Parser}
use Rattle.parse_events.specs.declared.opened.Opened.{Opened as OpenedHere}
use Rattle.parse_events.specs.Opened.{is_list, opened_name}
use Rattle.parse_events.specs.Stands.{IsListed, Stands}

-- whether the list of an item goes on after it
abbrev pub item_goes_on : Container → Bool → List Bool
item_goes_on Quote goes_on = []
item_goes_on (Item item) goes_on = goes_on ∷ []
item_goes_on (Footnote label) goes_on = []

abbrev pub holder_goes_on : Holder → List Bool
holder_goes_on (InContainer c goes_on) = item_goes_on c goes_on
holder_goes_on InList = []

-- whether the lists of the items that are open go on after them, the innermost first
abbrev pub which_go_on : List Level → List Bool
which_go_on [] = []
which_go_on (l ∷ levels) = holder_goes_on l.holder ++ which_go_on levels

-- which of those that are open are lists, the innermost first
abbrev pub which_are_lists : List Level → List Bool
which_are_lists [] = []
which_are_lists (l ∷ levels) = open_blocks.is_list l.holder ∷ which_are_lists levels

-- what a parser keeps of what is open says the same
abbrev pub KnowsLists : List OpenedHere → List Level → Type 0
KnowsLists held levels = map is_list (reverse held) ≡ which_are_lists levels

abbrev pub KnowsItems : List ItemPlace → List Bool → Type 0
KnowsItems items go_on = map (λ (x : ItemPlace). x.goes_on) (reverse items) ≡ go_on

-- A parser stands at a place in these containers. What it has written spells what is open after some rows of a text, and it keeps which of these are lists,
-- which lists go on after their open items, what is known of the items to come, and whether a block comes first in its item.
pub record IsParsing {A : Type 0} (r : Reading) (text : List ℕ) (front : Nodes) (o : Opened) (within : List Container) (p : Place) (parser : Parser A)
    : Type 0 where
  pub stands : Stands r text front o within p parser.walk
  pub lists : KnowsLists parser.open.items o.outer
  pub items : KnowsItems parser.items.items (which_go_on o.outer)
  pub places : reverse parser.places.items ≡ o.places
  pub first : parser.first ≡ (next_stands o).first

-- A row may come next, and is laid from a place in these containers. Where it leads to the end of the text, nothing is open.
pub record IsNext (on : Constructs) (o : Opened) (within : List Container) (p : Place) (row : BlockRow) (inner : List Container) (to : Place) : Type 0 where
  pub fits : Fits o row
  pub laid : IsRowLaid on within row p inner to
  pub last : to ≡ Between [] → (after_row o row).outer ≡ []

-- a parser stands after a row that comes next
abbrev pub GoesOn : {A : Type 0} → Reading → BlockRow → Parser A → Parser A → Type 0
GoesOn r row old new =
    (text : List ℕ) (front : Nodes) (o : Opened) (within inner : List Container) (p to : Place) → IsNext r.parse.constructs o within p row inner to
    → IsParsing r text front o within p old → IsParsing r text front (after_row o row) inner to new

-- the same for a row that begins on the line that is begun
abbrev pub GoesOnInLine : {A : Type 0} → Reading → BlockRow → Parser A → Parser A → Type 0
GoesOnInLine r row old new =
    (text : List ℕ) (front : Nodes) (o : Opened) (within inner : List Container) (p to : Place) → is_in_line p ≡ true
    → IsNext r.parse.constructs o within p row inner to → IsParsing r text front o within p old → IsParsing r text front (after_row o row) inner to new

-- the line of a row is begun, unless the row is the ending of a line
abbrev pub BeginsRow : {A : Type 0} → Parser A → Parser A → Type 0
BeginsRow old new =
    (r : Reading) (text : List ℕ) (front : Nodes) (o : Opened) (within inner : List Container) (p to : Place) (row : BlockRow) → ends_line row ≡ false
    → IsNext r.parse.constructs o within p row inner to → IsParsing r text front o within p old
    → IsParsing r text front o within (begun r.parse.constructs within p) new

-- The innermost that is open is exited, and nothing else happens.
pub record Closes {A : Type 0} (old new : Parser A) : Type 0 where
  pub last : OpenedHere
  pub parts : old.open.items ≡ new.open.items ++ last ∷ []
  pub exits : (text : List ℕ) → IsInOrder text old.walk.out → Exits text (opened_name last) old.walk.out new.walk.out
  pub stays : standing new.walk ≡ standing old.walk
  pub end : written_to new.walk ≡ written_to old.walk
  pub items : new.items.items ≡ old.items.items
  pub places : new.places.items ≡ old.places.items
  pub first : new.first ≡ old.first

-- The last of the finished items of a list ended just now, and the parser keeps still whether the list goes on.
pub record IsAfterItem {A : Type 0} (r : Reading) (text : List ℕ) (front : Nodes) (o : Opened) (within : List Container) (p : Place) (goes_on : Bool)
    (parser : Parser A) : Type 0 where
  pub stands : Stands r text front o within p parser.walk
  pub lists : KnowsLists parser.open.items o.outer
  pub items : KnowsItems parser.items.items (goes_on ∷ which_go_on o.outer)
  pub places : reverse parser.places.items ≡ o.places
  pub first : parser.first ≡ false
  pub in_list : is_in_list o.outer ≡ true
  pub before : Blocks
  pub item : Block
  pub kids : o.kids ≡ join before (one_block item)
  pub is_item : is_ending item ≡ false

-- the list ends with it, unless it goes on
abbrev pub EndsItem : {A : Type 0} → Parser A → Parser A → Type 0
EndsItem old new =
    (r : Reading) (text : List ℕ) (front : Nodes) (o : Opened) (within : List Container) (p : Place) (goes_on : Bool)
    → IsAfterItem r text front o within p goes_on old
    → IsParsing r text front (if not goes_on then list_end o.kids o.outer o.places else o) within p new

-- A parser stands in a line on which an item comes next, and its list is open. The item has a number or none, as its marker tells.
pub record IsListing {A : Type 0} (r : Reading) (text : List ℕ) (front : Nodes) (o : Opened) (within : List Container) (here : LineRest) (left : List LineRest)
    (number : Option ℕ) (parser : Parser A) : Type 0 where
  pub listed : IsListed r text front o within here left parser.walk
  pub lists : KnowsLists parser.open.items o.outer
  pub of_list : (item : ItemParts) (goes_on : Bool) → item.number ≡ number → list_name item.number ≡ marker_list item.marker
      → ((o.kids ≡ NoBlock → ⊥) → first_marker o.kids ≡ item.marker)
      → IsOfList (InContainer (bare_container (Item item)) goes_on) (innermost (forest_in text parser.walk.out).outer)

-- a list is open, in which an item may begin
abbrev pub BeginsList : {A : Type 0} → OpenedHere → Parser A → Parser A → Type 0
BeginsList list old new =
    (r : Reading) (text : List ℕ) (front : Nodes) (o : Opened) (within : List Container) (here : LineRest) (left : List LineRest) (number : Option ℕ)
    → opened_name list ≡ list_name number → Stands r text front o within (Within here left) old.walk → KnowsLists old.open.items o.outer
    → IsListing r text front (in_list o) within here left number new

-- A list is open in which an item may begin, and a parser keeps what it knows of items.
pub record HasList {A : Type 0} (list : OpenedHere) (old new : Parser A) : Type 0 where
  pub item : may_enter (still_open new.walk) ListItem ≡ true
  pub begins : BeginsList list old new
  pub items : new.items.items ≡ old.items.items
  pub places : new.places.items ≡ old.places.items

-- where nothing is open in the end, a walk stands there
abbrev pub StandsInEnd : {A : Type 0} → Parser A → Walk A → Type 0
StandsInEnd parser w =
    (r : Reading) (text : List ℕ) (front : Nodes) (o : Opened) (within : List Container) (p : Place) → o.outer ≡ []
    → IsParsing r text front o within p parser → Stands r text front o within p w
