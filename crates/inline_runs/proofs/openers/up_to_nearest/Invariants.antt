use Rattle.std.proofs.Common.{◌<◌, ◌≤◌, ℕ, length, false}
use Rattle.inline_runs.proofs.Prelude.{FitsAt}
use Rattle.inline_runs.proofs.openers.up_to_nearest.Given as goal

-- no opener from here on fits
abbrev pub invariant-loop-count : goal.invariant-loop-count
invariant-loop-count l = record {
  within : l.count ≤ length l.openers;
  none : (k : ℕ) → l.count ≤ k → k < length l.openers → FitsAt l.openers k l.want false;
}

abbrev pub decreases-loop-count : goal.decreases-loop-count
decreases-loop-count l = l.count
