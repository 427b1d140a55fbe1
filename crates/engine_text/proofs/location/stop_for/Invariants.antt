use Rattle.std.proofs.Common.{◌≡◌, ◌≤◌, length, take}
use Rattle.engine_text.specs.Stops.{stop_for}
use Rattle.engine_text.proofs.location.stop_for.Given as goal

-- the stops that are left have the same last one
abbrev pub invariant-loop-left : goal.invariant-loop-left
invariant-loop-left l = (l.left ≤ length l.stops) × (stop_for (take l.left l.stops) l.relative ≡ stop_for l.stops l.relative)

abbrev pub decreases-loop-left : goal.decreases-loop-left
decreases-loop-left l = l.left
