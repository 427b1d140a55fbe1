use Rattle.std.proofs.Common.{◌≡◌, drop}
use Rattle.parse_tables.proofs.Prelude.{KnowsTargets, piece_lines, reading_by, still_open, Targets, WritesFirstRowsHere}
use Rattle.parse_tables.proofs.gfm_table.push_next_rows.Given as goal

abbrev pub invariant-loop-row : goal.invariant-loop-row
invariant-loop-row g l = record {
  «open» : still_open l.walk ≡ still_open l.fn.walk;
  so_far : (ds : Targets) → KnowsTargets l.texts ds
      → WritesFirstRowsHere (reading_by g.T.Tables l.texts ds) (piece_lines l.rows) (piece_lines (drop l.row-index l.rows)) l.fn.walk l.walk;
}
