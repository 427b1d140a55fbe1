use Rattle.std.proofs.Common.{◌≡◌, ◌≤◌, length, take}
use Rattle.engine_text.specs.Slices.{last_enter}
use Rattle.engine_text.proofs.slice.last_enter.Given as goal

-- the events that are left have the same last enter of the name
abbrev pub invariant-loop-left : goal.invariant-loop-left
invariant-loop-left l = (l.left ≤ length l.events) × (last_enter l.name (take l.left l.events) ≡ last_enter l.name l.events)

abbrev pub decreases-loop-left : goal.decreases-loop-left
decreases-loop-left l = l.left
