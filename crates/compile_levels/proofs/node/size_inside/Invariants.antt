use Rattle.std.proofs.Common.{◌≡◌, ◌+◌, ◌-◌, ◌≤◌, drop, length}
use Rattle.compile_levels.specs.Siblings.{size_inside}
use Rattle.compile_levels.proofs.node.size_inside.Given as goal

abbrev pub invariant-loop-index : goal.invariant-loop-index
invariant-loop-index l =
    record {
      counted : l.pairs + l.pairs ≤ l.index;
      within : l.index ≤ length l.events;
      rest : l.index + size_inside (l.pairs + l.pairs) (drop l.index l.events) ≡ size_inside 0 l.events;
    }

abbrev pub decreases-loop-index : goal.decreases-loop-index
decreases-loop-index l = length l.events - l.index
