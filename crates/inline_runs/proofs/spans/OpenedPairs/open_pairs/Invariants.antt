use Rattle.std.proofs.Common.{◌≡◌, ◌≤◌, ℕ, length}
use Rattle.inline_runs.proofs.Prelude.{IsLast}
use Rattle.inline_runs.proofs.Opened.{IsOpened}
use Rattle.inline_runs.proofs.spans.OpenedPairs.open_pairs.Given as goal

-- of each opener that it may be, the pairs that are left come after those so far
abbrev pub invariant-loop-left : goal.invariant-loop-left
invariant-loop-left g l = record {
  within : l.left ≤ length l.pairs;
  opened : (place : ℕ) → IsLast place l.pairs l.fn.count → IsOpened place l.pairs l.initial.self.opened.items l.self.opened.items l.left;
  laid : l.self.laid ≡ l.initial.self.laid;
}

abbrev pub decreases-loop-left : goal.decreases-loop-left
decreases-loop-left g l = l.left
