use Rattle.std.proofs.Common.{◌≡◌, ℕ, ◌-◌, length, drop, true}
use Rattle.block_starts.proofs.ThematicBreakLemmas.{has_only}
use Rattle.block_starts.proofs.thematic_break.break_tail.Given as goal

-- what holds nothing else holds the marker, once there is one
abbrev pub invariant-loop-n : goal.invariant-loop-n
invariant-loop-n l = (l.marker ≡ 32 → ⊥) → (m : ℕ) → has_only m (drop (length l.bytes - l.n) l.bytes) ≡ true → m ≡ l.marker
