use Rattle.std.proofs.Common.{◌≡◌, ◌≤◌, ◌+◌, length, take, drop, true}
use Rattle.block_targets.proofs.Prelude.{are_bare_rows, HasLabelsSoFar, note_rows, piece_lines, rows_size, rows_value}
use Rattle.block_targets.proofs.gfm_footnote_definition.document_footnotes.Given as goal

-- the footnote definitions of the rows so far are there, and the others take their lines from those that are left
abbrev pub invariant-loop-row : goal.invariant-loop-row
invariant-loop-row g l = record {
  so_far : are_bare_rows (rows_value (take l.row-index l.rows) (piece_lines l.pieces)).rows ≡ true
      → HasLabelsSoFar l.found (note_rows (rows_value (take l.row-index l.rows) (piece_lines l.pieces)).rows);
  left : (rows_value (take l.row-index l.rows) (piece_lines l.pieces)).left ≡ piece_lines (drop l.at l.pieces);
  enough : l.at + rows_size (drop l.row-index l.rows) ≤ length l.pieces;
}
