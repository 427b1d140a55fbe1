use Rattle.std.proofs.Common.{[], ◌+◌, ◌≤◌, length}
use Rattle.event_references.proofs.Loops.{AreBelow, HasMarked}
use Rattle.event_references.proofs.labels.marked_table.Given as goal

-- the table has the labels before, which with those that are left are all
abbrev pub invariant-loop-mark : goal.invariant-loop-mark
invariant-loop-mark g l =
    record {
      counted : l.count + length l.left ≤ length l.marked;
      below : AreBelow l.bytes [] [] l.events (length l.events) l.left;
      labels : HasMarked l.bytes l.name l.events l.table l.count l.left;
    }

abbrev pub decreases-loop-mark : goal.decreases-loop-mark
decreases-loop-mark g l = length l.left
