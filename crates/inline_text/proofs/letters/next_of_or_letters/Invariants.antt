use Rattle.std.proofs.Common.{◌≡◌, ℕ, ◌<◌, ◌≤◌, ◌-◌, length, false, true}
use Rattle.inline_text.specs.Letters.{stops_at}
use Rattle.inline_text.proofs.letters.next_of_or_letters.Given as goal

-- nothing so far
abbrev pub invariant-by_block : goal.invariant-by_block
invariant-by_block l = (l.at ≤ length l.bytes) × ((k : ℕ) → k < l.at → stops_at true l.stops l.bytes k ≡ false)

abbrev pub decreases-by_block : goal.decreases-by_block
decreases-by_block l = l.last - l.at
