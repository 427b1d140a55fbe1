-- Lists: neighbouring items are put together after the lines are read (CommonMark 5.3).
use Rattle.std.specs.Prelude.{ℕ, suc, Bool, false, if◌then◌else◌, ◌==◌, ◌&&◌, ◌||◌, not, leb}
use Rattle.definition_block.specs.Container.{Container, Item}
use Rattle.definition_block.specs.Tree.{Block, Holds, Items}
use Rattle.definition_block.specs.Tree.{Blocks, Nil, Cons, join, one, is_ending}

-- ---- neighbours

-- how many endings stand at the front
abbrev pub endings_at_front : Blocks → ℕ
endings_at_front Nil = 0
endings_at_front (Cons b bs) = if is_ending b then suc (endings_at_front bs) else 0

-- the endings at the front, and what follows them
abbrev pub endings_of : Blocks → Blocks
endings_of Nil = Nil
endings_of (Cons b bs) = if is_ending b then Cons b (endings_of bs) else Nil

abbrev pub after_endings : Blocks → Blocks
after_endings Nil = Nil
after_endings (Cons b bs) = if is_ending b then after_endings bs else Cons b bs

abbrev pub is_some_block : Blocks → Bool
is_some_block Nil = false
is_some_block (Cons b bs) = not (is_ending b) || is_some_block bs

-- whether some two neighbouring children have a line between them: two endings or more stand between, that of the first one's last line and those of the lines
-- between
abbrev pub has_gap : Blocks → Bool
has_gap Nil = false
has_gap (Cons b bs) = (not (is_ending b) && leb 2 (endings_at_front bs) && is_some_block bs) || has_gap bs

-- whether some two neighbouring children of one of these items have a line between them
abbrev pub has_gap_inside : Blocks → Bool
has_gap_inside Nil = false
has_gap_inside (Cons (Holds c kids) bs) = has_gap kids || has_gap_inside bs
has_gap_inside (Cons b bs) = has_gap_inside bs

-- a list is loose if some two neighbouring items, or some two neighbouring children of one item, have a line between them (CommonMark 5.3)
abbrev pub is_loose : Blocks → Bool
is_loose items = has_gap items || has_gap_inside items

-- ---- lists

-- the marker byte of an item, or 0: items of one list have the same, which says whether they are ordered, too (CommonMark 5.3)
abbrev pub container_marker : Container → ℕ
container_marker (Item item) = item.marker
container_marker c = 0

abbrev pub item_marker : Block → ℕ
item_marker (Holds c kids) = container_marker c
item_marker b = 0

-- the marker byte of a list that comes first, or 0
abbrev pub list_marker : Blocks → ℕ
list_marker (Cons (Items (Cons item items)) bs) = item_marker item
list_marker bs = 0

-- the items of a list that comes first
abbrev pub list_items : Blocks → Blocks
list_items (Cons (Items items) bs) = items
list_items bs = Nil

abbrev pub rest_of : Blocks → Blocks
rest_of Nil = Nil
rest_of (Cons b bs) = bs

-- an item before these: it is put into a list of its kind that only endings precede, or starts one
abbrev pub before_list : ℕ → Block → Blocks → Blocks
before_list marker item bs =
    if list_marker (after_endings bs) == marker
    then Cons (Items (Cons item (join (endings_of bs) (list_items (after_endings bs))))) (rest_of (after_endings bs))
    else Cons (Items (one item)) bs

abbrev pub put_before : Block → Blocks → Blocks
put_before b bs = if item_marker b == 0 then Cons b bs else before_list (item_marker b) b bs

-- children with their items put into lists, and so in each container
abbrev mutual
  pub grouped_block : Block → Block
  grouped_block (Holds c kids) = Holds c (group_items kids)
  grouped_block b = b

  pub group_items : Blocks → Blocks
  group_items Nil = Nil
  group_items (Cons b bs) = put_before (grouped_block b) (group_items bs)
