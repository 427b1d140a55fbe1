use Rattle.std.proofs.Common.{◌≡◌, ◌++◌, map}
use Rattle.std.specs.Prelude.{take, drop}
use Rattle.inline_rows.proofs.Prelude.{start_row}
use Rattle.inline_rows.proofs.tell.start_spans.Given as goal

abbrev pub invariant-loop-place : goal.invariant-loop-place
invariant-loop-place l = l.rows ≡ map (start_row l.marker) (take l.place l.opened) ++ drop l.place l.initial.rows
