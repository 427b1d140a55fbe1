use Rattle.std.proofs.Common.{◌≡◌}
use Rattle.inline_runs.proofs.openers.Openers.raise.Given as goal

abbrev pub invariant-loop-i : goal.invariant-loop-i
invariant-loop-i g l = l.self ≡ l.initial.self
