-- What the printer of leaf blocks prints: the pieces of the block that an event spells.
use Rattle.std.specs.Prelude.{Bool, true, false, List, []}
use Rattle.definition_page.specs.BlockPieces.{Place, block_pieces}
use Rattle.definition_page.specs.InlinePieces.{Meaning}
use Rattle.definition_page.specs.Page as page
use Rattle.definition_page.specs.Pieces.{Piece}
use Rattle.compile_levels.specs.declared.kind.BlockKind.{BlockKind}
use Rattle.compile_levels.specs.declared.kind.BlockKind.TheVariants as k
use Rattle.event_meaning.specs.Left.{sibling_of}
use Rattle.compile_blocks.specs.declared.printer.LeafPlace.{LeafPlace}

-- containers, lists and items are printed by who walks the blocks
abbrev pub is_leaf : BlockKind → Bool
is_leaf k.Quote = false
is_leaf k.UnorderedList = false
is_leaf k.OrderedList = false
is_leaf k.Item = false
is_leaf k.Footnote = false
is_leaf kind = true

abbrev pub place_of : LeafPlace → Place
place_of place = record { top = place.top; tight = place.tight }

-- what the first of these blocks prints, which is the only one
abbrev pub first_pieces : Meaning → LeafPlace → page.Blocks → List Piece
first_pieces m place page.Nil = []
first_pieces m place (page.Cons b bs) = block_pieces m (place_of place) (sibling_of place.silent) b
