use Rattle.std.proofs.Common.{◌≡◌, eqb, length}
use Rattle.block_cells.proofs.Prelude.{cells, cells_left, piece_line}
use Rattle.block_cells.proofs.gfm_table.has_cells.Given as goal

-- so many cells are missing as are left
abbrev pub invariant-loop-missing : goal.invariant-loop-missing
invariant-loop-missing l = eqb (length (cells l.line.before (piece_line l.line).codes)) l.count ≡ eqb (length (cells_left l.cells)) l.missing

abbrev pub decreases-loop-missing : goal.decreases-loop-missing
decreases-loop-missing l = length (cells_left l.cells)
