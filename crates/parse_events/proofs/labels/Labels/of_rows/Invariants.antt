use Rattle.std.proofs.Common.{◌≡◌, ◌≤◌, ◌+◌, length, take, drop}
use Rattle.parse_events.proofs.Prelude.{HasLabels, piece_lines, rows_size, rows_value}
use Rattle.parse_events.proofs.labels.Labels.of_rows.Given as goal

-- the labels of the rows so far are there, and the others take their lines from those that are left
abbrev pub invariant-loop-row : goal.invariant-loop-row
invariant-loop-row g l = record {
  so_far : HasLabels l.labels (rows_value (take l.row-index l.rows) (piece_lines l.pieces)).rows;
  left : (rows_value (take l.row-index l.rows) (piece_lines l.pieces)).left ≡ piece_lines (drop l.taken l.pieces);
  enough : l.taken + rows_size (drop l.row-index l.rows) ≤ length l.pieces;
}
