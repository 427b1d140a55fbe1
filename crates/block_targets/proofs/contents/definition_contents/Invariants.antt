use Rattle.std.proofs.Common.{◌≡◌, ◌≤◌, ◌+◌, length, take, drop}
use Rattle.block_targets.proofs.Prelude.{flat_map, HasContents, piece_lines, row_definitions, rows_size, rows_value}
use Rattle.block_targets.proofs.contents.definition_contents.Given as goal

-- the definitions of the rows so far are there, and the others take their lines from those that are left
abbrev pub invariant-loop-row : goal.invariant-loop-row
invariant-loop-row g l = record {
  so_far : HasContents l.contents (flat_map row_definitions (rows_value (take l.row-index l.rows) (piece_lines l.pieces)).rows);
  left : (rows_value (take l.row-index l.rows) (piece_lines l.pieces)).left ≡ piece_lines (drop l.at l.pieces);
  enough : l.at + rows_size (drop l.row-index l.rows) ≤ length l.pieces;
}
