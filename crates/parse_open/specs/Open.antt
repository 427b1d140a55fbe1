-- What is open in a document after some of its rows, and the blocks that are finished (CommonMark 5).
use Rattle.std.specs.Prelude.{◌≡◌, ℕ, Bool, true, false, not, if◌then◌else◌, List, [], ◌∷◌, Option}
use Rattle.definition_block.specs.Container.{Container, Quote, Item, Footnote}
use Rattle.definition_block.specs.Lists.{item_marker}
use Rattle.definition_block.specs.Tree.{Block, Leaf, Holds, Items, Ending, Blank, Blocks, Nil, Cons, join, one, is_ending}
use Rattle.block_rows.specs.Rows.{BlockRow, Single, EnterQuote, EnterItem, EnterFootnote, Exit, spaced_leaf}
use Rattle.html_looseness.specs.declared.loose.Place.{Place}

-- what holds blocks and is open: a container, and whether its list goes on after it, where it is an item; or a list
pub data Holder : Type 0 where
  InContainer : Container → Bool → Holder
  InList : Holder

-- one that is open, and the blocks before it in what is around it
pub record Level : Type 0 where
  pub holder : Holder
  pub before : Blocks

abbrev pub level : Holder → Blocks → Level
level holder before = record { holder = holder; before = before }

-- the blocks so far in the innermost that is open, or in the document; what is open, the innermost first; and what is known of the items to come
pub record Opened : Type 0 where
  pub kids : Blocks
  pub outer : List Level
  pub places : List Place

abbrev pub opened : Blocks → List Level → List Place → Opened
opened kids outer places = record { kids = kids; outer = outer; places = places }

-- ---- starts

-- a container or a list begins
abbrev pub within : Holder → Opened → Opened
within holder o = opened Nil (level holder o.kids ∷ o.outer) o.places

abbrev pub is_list : Holder → Bool
is_list (InContainer c goes_on) = false
is_list InList = true

-- whether the innermost that is open is a list
abbrev pub is_in_list : List Level → Bool
is_in_list [] = false
is_in_list (l ∷ outer) = is_list l.holder

-- a list begins, unless one is the innermost that is open
abbrev pub in_list : Opened → Opened
in_list o = if is_in_list o.outer then o else within InList o

-- an item as its row has it, without the columns to its content
abbrev pub bare_item : ℕ → Option ℕ → Container
bare_item marker number = Item (record { marker = marker; number = number; size = 0 })

-- whether the list of the next item goes on after it
abbrev pub next_goes_on : List Place → Bool
next_goes_on [] = false
next_goes_on (p ∷ places) = p.goes_on

abbrev pub other_places : List Place → List Place
other_places [] = []
other_places (p ∷ places) = places

-- an item begins, in its list
abbrev pub item_begun : Container → Opened → Opened
item_begun c o = within (InContainer c (next_goes_on o.places)) (opened o.kids o.outer (other_places o.places))

-- ---- ends

-- the innermost list ends
abbrev pub list_end : Blocks → List Level → List Place → Opened
list_end items [] places = opened items [] places
list_end items (l ∷ outer) places = opened (join l.before (one (Items items))) outer places

-- whether a container is an item, and its list ends with it
abbrev pub ends_list : Container → Bool → Bool
ends_list Quote goes_on = false
ends_list (Item item) goes_on = not goes_on
ends_list (Footnote label) goes_on = false

-- these blocks are all in the innermost that is open; rows end no list
abbrev pub holder_end : Blocks → Level → Holder → List Level → List Place → Opened
holder_end kids l (InContainer c goes_on) outer places =
    let more = join l.before (one (Holds c kids)) in
    if ends_list c goes_on then list_end more outer places else opened more outer places
holder_end kids l InList outer places = opened kids (l ∷ outer) places

-- the innermost container ends, and its list, if it is the last item
abbrev pub container_end : Blocks → List Level → List Place → Opened
container_end kids [] places = opened kids [] places
container_end kids (l ∷ outer) places = holder_end kids l l.holder outer places

-- ---- rows

-- after one more row
abbrev pub after_row : Opened → BlockRow → Opened
after_row o (Single b) = opened (join o.kids (one b)) o.outer o.places
after_row o EnterQuote = within (InContainer Quote false) o
after_row o (EnterItem marker number) = item_begun (bare_item marker number) (in_list o)
after_row o (EnterFootnote label) = within (InContainer (Footnote label) false) o
after_row o Exit = container_end o.kids o.outer o.places

-- the marker of the first of these items, or 0
abbrev pub first_marker : Blocks → ℕ
first_marker Nil = 0
first_marker (Cons b bs) = item_marker b

-- Whether a row may come next: in a list there are only endings, and items with the marker of the first. Lists end before anything else does.
abbrev pub Fits : Opened → BlockRow → Type 0
Fits o (Single b) = is_ending b ≡ false → is_in_list o.outer ≡ false
Fits o EnterQuote = is_in_list o.outer ≡ false
Fits o (EnterItem marker number) = is_in_list o.outer ≡ true → first_marker o.kids ≡ marker
Fits o (EnterFootnote label) = is_in_list o.outer ≡ false
Fits o Exit = is_in_list o.outer ≡ false

-- these rows may come next, one after another; nothing is open after them, and these are all blocks
abbrev pub LeadTo : Opened → List BlockRow → Blocks → Type 0
LeadTo o [] all = o ≡ opened all [] []
LeadTo o (row ∷ rows) all = Fits o row × LeadTo (after_row o row) rows all

-- ---- blocks as their rows have them

abbrev pub bare_container : Container → Container
bare_container Quote = Quote
bare_container (Item item) = bare_item item.marker item.number
bare_container (Footnote label) = Footnote label

abbrev mutual
  -- a block as its rows have it
  pub bare_block : Block → Block
  bare_block (Leaf leaf) = Leaf (spaced_leaf leaf)
  bare_block (Holds c kids) = Holds (bare_container c) (bare_blocks kids)
  bare_block (Items items) = Items (bare_blocks items)
  bare_block (Ending ending) = Ending ending
  bare_block (Blank ending) = Blank ending

  pub bare_blocks : Blocks → Blocks
  bare_blocks Nil = Nil
  bare_blocks (Cons b bs) = Cons (bare_block b) (bare_blocks bs)
