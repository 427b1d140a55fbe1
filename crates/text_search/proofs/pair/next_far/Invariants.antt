use Rattle.std.proofs.Common.{◌≡◌, ℕ, ◌-◌, ◌<◌, ◌≤◌, false, length, get_or}
use Rattle.text_search.specs.Pairs.{is_of_pair}
use Rattle.text_search.proofs.pair.next_far.Given as goal

-- no byte so far is one of the pair
abbrev pub invariant-by_block : goal.invariant-by_block
invariant-by_block l = (l.at ≤ length l.bytes) × ((k : ℕ) → k < l.at → is_of_pair l.pair (get_or l.bytes k 0) ≡ false)

abbrev pub decreases-by_block : goal.decreases-by_block
decreases-by_block l = length l.bytes - l.at
