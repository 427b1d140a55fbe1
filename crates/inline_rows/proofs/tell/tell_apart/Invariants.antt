use Rattle.inline_rows.proofs.Runs.{IsToldWhere}
use Rattle.inline_rows.proofs.tell.tell_apart.Given as goal

abbrev pub invariant-loop-place : goal.invariant-loop-place
invariant-loop-place g l = IsToldWhere l.initial.rows l.runs l.slots l.place l.rows
