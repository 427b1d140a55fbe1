use Rattle.std.proofs.Common.{◌≡◌, ℕ, ◌<◌, ◌≤◌, true, get_or}
use Rattle.definition_text.specs.Columns.{is_white}
use Rattle.inline_text.proofs.plain.without_white.Given as goal

-- the bytes from here to the end are white space
abbrev pub invariant-loop-start : goal.invariant-loop-start
invariant-loop-start l = (l.start ≤ l.end) × ((k : ℕ) → l.start ≤ k → k < l.end → is_white (get_or l.bytes k 0) ≡ true)

abbrev pub decreases-loop-start : goal.decreases-loop-start
decreases-loop-start l = l.start
