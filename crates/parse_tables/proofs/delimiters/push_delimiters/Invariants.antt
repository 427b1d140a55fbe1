use Rattle.std.proofs.Common.{◌≡◌, length}
use Rattle.parse_tables.proofs.Prelude.{still_open}
use Rattle.parse_tables.proofs.RowWritten.{WritesRowSoFar}
use Rattle.parse_tables.proofs.delimiters.push_delimiters.Given as goal

abbrev pub invariant-loop-rest : goal.invariant-loop-rest
invariant-loop-rest g l = (still_open l.walk ≡ still_open l.initial.walk) × WritesRowSoFar l.rest l.fn.walk l.walk

abbrev pub decreases-loop-rest : goal.decreases-loop-rest
decreases-loop-rest g l = length l.rest
