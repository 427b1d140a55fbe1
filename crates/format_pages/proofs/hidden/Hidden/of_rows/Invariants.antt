use Rattle.std.proofs.Common.{◌≡◌, ◌≤◌, ◌+◌, length, take, drop}
use Rattle.text_pieces.specs.Pieces.{piece_lines}
use Rattle.block_rows.specs.Rows.{rows_size, rows_value}
use Rattle.format_pages.specs.Hidden.{HasHidden}
use Rattle.format_pages.proofs.hidden.Hidden.of_rows.Given as goal

-- what the rows so far hide is there, and the others take their lines from those that are left
abbrev pub invariant-loop-row : goal.invariant-loop-row
invariant-loop-row l = record {
  so_far : HasHidden l.hidden (rows_value (take l.row-index l.rows) (piece_lines l.pieces)).rows;
  left : (rows_value (take l.row-index l.rows) (piece_lines l.pieces)).left ≡ piece_lines (drop l.taken l.pieces);
  enough : l.taken + rows_size (drop l.row-index l.rows) ≤ length l.pieces;
}
