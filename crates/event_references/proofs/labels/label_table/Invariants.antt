use Rattle.std.proofs.Common.{◌≤◌}
use Rattle.event_references.proofs.Loops.{HasFront}
use Rattle.event_references.proofs.labels.label_table.Given as goal

-- the table has the labels before, which with those that are left are all
abbrev pub invariant-loop-index : goal.invariant-loop-index
invariant-loop-index g l =
    record {
      counted : l.count ≤ l.index;
      labels : HasFront l.bytes l.name l.events l.index l.table l.count;
    }
