use Rattle.std.proofs.Common.{◌≡◌, ◌≤◌, ◌+◌, ◌-◌, drop, true}
use Rattle.engine_text.specs.Skips.{whole, whole_from}
use Rattle.engine_text.proofs.skip.opt.Given as goal

-- what was taken, and what the rest adds to it
abbrev pub invariant-loop-at : goal.invariant-loop-at
invariant-loop-at l =
    (l.run.done + l.run.pending ≤ l.at - l.index)
    × (l.run.depth ≤ l.run.pending)
    × (l.run.forward ≡ true)
    × (l.run.done + whole_from true l.names l.run.pending l.run.depth (drop l.at l.events) ≡ whole l.names (drop l.index l.events))
