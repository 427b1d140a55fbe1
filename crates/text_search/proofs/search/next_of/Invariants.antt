use Rattle.std.proofs.Common.{◌≡◌, ℕ, ◌-◌, ◌<◌, ◌≤◌, false, length, get_or}
use Rattle.text_search.proofs.search.next_of.Given as goal

-- no byte so far is one of the set
abbrev pub invariant-by_block : goal.invariant-by_block
invariant-by_block g l = (l.at ≤ length l.bytes) × ((k : ℕ) → k < l.at → g.T.ByteTest.passes l.test (get_or l.bytes k 0) ≡ false)

abbrev pub decreases-by_block : goal.decreases-by_block
decreases-by_block g l = length l.bytes - l.at
