-- The places of items, in the definition's words for lists (CommonMark 5.3).
use Rattle.std.specs.Prelude.{List, [], ◌∷◌, ◌++◌}
use Rattle.definition_block.specs.Tree.{Block, Holds, Items, Blocks, Nil, Cons}
use Rattle.definition_block.specs.Lists.{is_loose, is_some_block}
use Rattle.html_looseness.specs.declared.loose.Place.{Place}

-- that of an item, by what follows it in its list
abbrev pub item_place : Block → Blocks → Place
item_place item others = record { loose = is_loose (Cons item others); goes_on = is_some_block others }

-- those of all items in blocks whose items are put into lists, in the order of the text
abbrev mutual
  pub block_places : Block → List Place
  block_places (Holds c kids) = all_places kids
  block_places (Items items) = list_places items
  block_places b = []

  -- of the items of a list, among endings
  pub list_places : Blocks → List Place
  list_places Nil = []
  list_places (Cons (Holds c kids) items) = item_place (Holds c kids) items ∷ (all_places kids ++ list_places items)
  list_places (Cons b items) = list_places items

  pub all_places : Blocks → List Place
  all_places Nil = []
  all_places (Cons b bs) = block_places b ++ all_places bs
