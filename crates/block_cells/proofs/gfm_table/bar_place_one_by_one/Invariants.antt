use Rattle.std.proofs.Common.{◌≡◌, ◌+◌, drop, false}
use Rattle.block_cells.proofs.Prelude.{bar_at}
use Rattle.block_cells.proofs.gfm_table.bar_place_one_by_one.Given as goal

-- no bar so far divides cells
abbrev pub invariant-loop-i : goal.invariant-loop-i
invariant-loop-i l = bar_at false l.bytes ≡ l.i + bar_at l.escaped (drop l.i l.bytes)
