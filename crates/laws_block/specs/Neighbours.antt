-- Which items are in one list (CommonMark 5.3).
use Rattle.std.specs.Prelude.{◌≡◌, ◌≢◌, Bool, true, false}
use Rattle.definition_block.specs.Container.{Quote, Footnote}
use Rattle.definition_block.specs.Tree.{Block, Leaf, Holds, Items, Blocks, Cons, join, one, all_endings}
use Rattle.definition_block.specs.Lists.{item_marker, grouped_block, group_items}

-- an item has a marker, any other block none
abbrev pub IsItem : Block → Type 0
IsItem b = item_marker b ≢ 0

-- two items, where these stand before the first one, between the two, and after the second one
abbrev pub children : Blocks → Block → Blocks → Block → Blocks → Blocks
children front first endings second rest = join front (Cons first (join endings (Cons second rest)))

-- What stands around two items in lists: before the first one's list, and in that list before it; after the second one in its list, and after that list.
pub record Around : Type 0 where
  pub before : Blocks
  pub earlier : Blocks
  pub later : Blocks
  pub after : Blocks

-- the first one ends a list, with which these children end
abbrev pub ends_list : Around → Block → Blocks
ends_list around first = join around.before (one (Items (join around.earlier (one first))))

-- the second one begins a list, with which these children begin
abbrev pub begins_list : Around → Block → Blocks
begins_list around second = Cons (Items (Cons second around.later)) around.after

-- both stand in one list
abbrev pub one_list : Around → Block → Blocks → Block → Blocks
one_list around first endings second =
    join around.before (Cons (Items (join around.earlier (Cons first (join endings (Cons second around.later))))) around.after)

-- one list ends with the first one, and the next begins with the second one
abbrev pub two_lists : Around → Block → Blocks → Block → Blocks
two_lists around first endings second =
    join around.before (Cons (Items (join around.earlier (one first))) (join endings (begins_list around second)))

-- Two items are in one list if they have the same marker, and otherwise in two: the lists are those of what stands up to the first one, and of what stands from
-- the second one on.
pub record AreListed (front : Blocks) (first : Block) (endings : Blocks) (second : Block) (rest : Blocks) : Type 0 where
  pub around : Around
  pub up_to_first : group_items (join front (one first)) ≡ ends_list around (grouped_block first)
  pub from_second : group_items (Cons second rest) ≡ begins_list around (grouped_block second)
  pub same : item_marker first ≡ item_marker second
      → group_items (children front first endings second rest) ≡ one_list around (grouped_block first) endings (grouped_block second)
  pub other : item_marker first ≢ item_marker second
      → group_items (children front first endings second rest) ≡ two_lists around (grouped_block first) endings (grouped_block second)

-- two items between which only endings stand, among any others
abbrev pub NeighboursAreListed : Type 0
NeighboursAreListed =
    (front : Blocks) (first : Block) (endings : Blocks) (second : Block) (rest : Blocks)
    → IsItem first → IsItem second → all_endings endings ≡ true → AreListed front first endings second rest

-- no item, list or ending
abbrev pub is_other : Block → Bool
is_other (Leaf leaf) = true
is_other (Holds Quote kids) = true
is_other (Holds (Footnote label) kids) = true
is_other b = false

-- no list goes on over a block that is no item, list or ending: what stands on its two sides is put into lists alone
abbrev pub OthersPartLists : Type 0
OthersPartLists =
    (front : Blocks) (b : Block) (rest : Blocks) → is_other b ≡ true
    → group_items (join front (Cons b rest)) ≡ join (group_items front) (Cons (grouped_block b) (group_items rest))
