use Rattle.std.proofs.Common.{◌≡◌, length}
use Rattle.parse_tables.proofs.Prelude.{cells_left, KnowsTargets, reading_by, still_open, Targets, WritesFirstCellsHere}
use Rattle.parse_tables.proofs.cells.push_cells.Given as goal

abbrev pub invariant-loop-cell : goal.invariant-loop-cell
invariant-loop-cell g l = record {
  «open» : still_open l.walk ≡ still_open l.fn.walk;
  so_far : (ds : Targets) → KnowsTargets l.texts ds
      → WritesFirstCellsHere (reading_by g.T.Tables l.texts ds) (cells_left l.cells) (cells_left l.left) l.fn.walk l.walk;
}

abbrev pub decreases-loop-cell : goal.decreases-loop-cell
decreases-loop-cell g l = length (cells_left l.left)
