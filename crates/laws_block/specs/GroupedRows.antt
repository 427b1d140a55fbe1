-- Lists only group (CommonMark 5.3).
use Rattle.std.specs.Prelude.{◌≡◌}
use Rattle.definition_block.specs.Tree.{Blocks}
use Rattle.definition_block.specs.Lists.{group_items}
use Rattle.block_rows.specs.Rows.{rows_of}

-- putting items into lists adds no row, loses none, and keeps their order
abbrev pub ListsOnlyGroup : Type 0
ListsOnlyGroup = (bs : Blocks) → rows_of (group_items bs) ≡ rows_of bs
