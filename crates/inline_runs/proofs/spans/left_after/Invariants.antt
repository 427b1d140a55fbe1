use Rattle.std.proofs.Common.{◌≡◌, ◌-◌, take}
use Rattle.std.specs.List.{sum_by}
use Rattle.inline_runs.proofs.Prelude.{pair_bytes}
use Rattle.inline_runs.proofs.spans.left_after.Given as goal

abbrev pub invariant-loop-pair : goal.invariant-loop-pair
invariant-loop-pair l = l.left ≡ l.size - sum_by pair_bytes (take l.pair-index l.pairs)
