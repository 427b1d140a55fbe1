use Rattle.std.proofs.Common.{◌≡◌, ◌≤◌, ◌<◌, ℕ, true, length, get_or}
use Rattle.html_footnotes.proofs.Prelude.{ends_line}
use Rattle.html_footnotes.proofs.gfm_footnote_definition.ended_size.Given as goal

-- what is left out are line endings
abbrev pub invariant-loop-size : goal.invariant-loop-size
invariant-loop-size l = record {
  within : l.size ≤ length l.html;
  left_out : (k : ℕ) → l.size ≤ k → k < length l.html → ends_line (get_or l.html k 0) ≡ true;
}

abbrev pub decreases-loop-size : goal.decreases-loop-size
decreases-loop-size l = l.size
