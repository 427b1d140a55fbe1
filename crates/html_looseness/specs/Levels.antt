-- What holds a row, and what a block prints in it.
use Rattle.std.specs.Prelude.{Bool, true, false, ◌&&◌, List, []}
use Rattle.definition_block.specs.Tree.{is_ending}
use Rattle.definition_page.specs.Read.{Standing}
use Rattle.html_bytes.specs.Pieces.{Piece}
use Rattle.html_bytes.specs.Document.{Document}
use Rattle.html_bytes.specs.Html.{block_bytes, silences, plain_after}
use Rattle.block_rows.specs.Rows.{BlockRow, Single, EnterQuote, EnterItem, EnterFootnote, Exit}
use Rattle.html_looseness.specs.declared.level.Level.{Level}
use Rattle.html_looseness.specs.declared.level.Holder.{Holder}
use Rattle.html_looseness.specs.declared.level.Holder.TheVariants as holder

abbrev pub is_document : Holder → Bool
is_document holder.Document = true
is_document k = false

abbrev pub is_list : Holder → Bool
is_list (holder.List number) = true
is_list k = false

abbrev pub is_item : Holder → Bool
is_item (holder.Item last) = true
is_item k = false

abbrev pub level_of : Holder → Bool → Bool → Bool → Bool → Level
level_of k tight plain silent first = record { holder = k; tight = tight; plain = plain; silent = silent; first = first }

-- where its next block stands
abbrev pub standing_of : Level → Standing
standing_of l = record { top = is_document l.holder; first = l.first }

-- a block at the top or not, and one that is the first in an item or not: the rest of where they stand doesn't matter to what they print
abbrev pub standing_at : Bool → Standing
standing_at top = record { top = top; first = false }

abbrev pub standing_first : Bool → Standing
standing_first first = record { top = true; first = first }

-- nothing was printed in it
abbrev pub new_level : Holder → Bool → Level
new_level k tight = level_of k tight true false (is_item k)

-- a block stands last in it, and no tight paragraph
abbrev pub after_block : Level → Level
after_block l = level_of l.holder l.tight false false (l.first && false)

-- a footnote definition stands last in it
abbrev pub after_footnote : Level → Level
after_footnote l = level_of l.holder l.tight l.plain true (l.first && false)

abbrev pub level_after : Level → BlockRow → Level
level_after l (Single b) = level_of l.holder l.tight (plain_after l.tight l.plain b) (silences (is_document l.holder) l.tight l.silent b)
    (l.first && is_ending b)
level_after l EnterQuote = after_block l
level_after l (EnterItem marker number) = after_block l
level_after l (EnterFootnote label) = after_footnote l
level_after l Exit = after_block l

-- what a block prints at a level
abbrev pub row_pieces : Document → Level → BlockRow → List Piece
row_pieces d l (Single b) = block_bytes d (standing_of l) l.tight l.silent b
row_pieces d l row = []
