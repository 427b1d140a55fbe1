use Rattle.std.proofs.Common.{◌≡◌, ℕ, ◌<◌, ◌≤◌, ◌-◌, false, true}
use Rattle.inline_text.specs.Letters.{stops_at}
use Rattle.inline_text.proofs.letters.next_one_by_one.Given as goal

-- nothing so far
abbrev pub invariant-loop-at : goal.invariant-loop-at
invariant-loop-at l = (l.at ≤ l.last) × ((k : ℕ) → k < l.at → stops_at true l.stops l.bytes k ≡ false)

abbrev pub decreases-loop-at : goal.decreases-loop-at
decreases-loop-at l = l.last - l.at
