use Rattle.std.proofs.Common.{◌≡◌, ◌≤◌, drop, false}
use Rattle.event_check.proofs.Prelude.{marks, marks_after}
use Rattle.event_check.proofs.align.marks_in.Given as goal

abbrev pub invariant-loop-event : goal.invariant-loop-event
invariant-loop-event l =
    record {
      counted : l.depth ≤ l.event-index;
      rest : marks_after l.depth l.found (drop l.event-index l.events) ≡ marks_after 0 (marks false false false) l.events;
    }
