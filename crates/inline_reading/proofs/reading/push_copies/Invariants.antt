use Rattle.std.proofs.Common.{◌≡◌, ◌++◌}
use Rattle.std.specs.Prelude.{replicate}
use Rattle.inline_reading.proofs.reading.push_copies.Given as goal

-- so many stand there
abbrev pub invariant-loop-i : goal.invariant-loop-i
invariant-loop-i g l = l.rows.items ≡ l.initial.rows.items ++ replicate l._i l.row
