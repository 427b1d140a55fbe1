use Rattle.std.proofs.Common.{◌≡◌, ◌≤◌, ◌+◌, ◌-◌, take, reverse, false, length}
use Rattle.engine_text.specs.Skips.{whole_from}
use Rattle.engine_text.proofs.skip.whole_before.Given as goal

-- what was taken, and what the events that are left add to it
abbrev pub invariant-loop-left : goal.invariant-loop-left
invariant-loop-left l =
    (l.left ≤ length l.events)
    × (l.run.done + l.run.pending ≤ length l.events - l.left)
    × (l.run.depth ≤ l.run.pending)
    × (l.run.forward ≡ false)
    × (l.run.done + whole_from false l.names l.run.pending l.run.depth (reverse (take l.left l.events)) ≡ whole_from false l.names 0 0 (reverse l.events))

abbrev pub decreases-loop-left : goal.decreases-loop-left
decreases-loop-left l = l.left
