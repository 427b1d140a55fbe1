-- The head of a table above its row of delimiters.
use Rattle.std.proofs.Common.{◌≡◌, ℕ, ◌<◌, ◌-◌, suc, ◌==◌, List, [], ◌∷◌, refl, ap, ◌∙◌, get_or, length, arith}
use Rattle.block_leaves.proofs.Prelude.{block_and_ending, BlockLine, is_head, last_ending, Leaf, line_cells, own_lines, Paragraph, paragraph_of, Piece}
use Rattle.block_leaves.proofs.Prelude.{piece_line, piece_lines}
use Rattle.markdown_options.specs.declared.align_kind.AlignKind.{AlignKind}
use Rattle.block_leaves.specs.GfmTable.{fits}

-- a paragraph of some lines
pub paragraph_some : (ls : List BlockLine) → 0 < length ls → paragraph_of ls ≡ block_and_ending (Leaf (Paragraph (own_lines ls))) (last_ending ls)
paragraph_some [] some = absurd (omega arith)
paragraph_some (line ∷ ls) some = refl

-- the last piece is the head
pub last_is_head : (count : ℕ) (pieces : List Piece) (d : Piece) → 0 < length pieces
    → (length (line_cells (piece_line (get_or pieces (length pieces - 1) d))) == count) ≡ is_head count (piece_lines pieces)
last_is_head count [] d some = absurd (omega arith)
last_is_head count (a ∷ []) d some = refl
last_is_head count (a ∷ b ∷ others) d some =
    let at : length (a ∷ b ∷ others) - 1 ≡ suc (length (b ∷ others) - 1) = omega arith in
    ap (λ i. length (line_cells (piece_line (get_or (a ∷ b ∷ others) i d))) == count) at ∙ last_is_head count (b ∷ others) d (omega arith)

-- columns that are there
pub fits_some : (columns : List AlignKind) (ls : List BlockLine) → 0 < length columns → is_head (length columns) ls ≡ fits columns ls
fits_some [] ls some = absurd (omega arith)
fits_some (align ∷ aligns) ls some = refl
