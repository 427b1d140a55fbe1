-- The kinds of containers (CommonMark 5).
use Rattle.std.specs.Prelude.{Bool, true, false}
use Rattle.definition_block.specs.Container.{Container, Quote, Item, Footnote}

abbrev pub is_item : Container → Bool
is_item Quote = false
is_item (Item item) = true
is_item (Footnote label) = false

abbrev pub is_footnote : Container → Bool
is_footnote Quote = false
is_footnote (Item item) = false
is_footnote (Footnote label) = true
