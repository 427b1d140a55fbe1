use Rattle.std.proofs.Common.{◌≡◌, ◌≤◌, drop, None}
use Rattle.event_check.proofs.Prelude.{apart_after}
use Rattle.event_check.proofs.loose.are_apart.Given as goal

abbrev pub invariant-loop-event : goal.invariant-loop-event
invariant-loop-event l =
    record {
      counted : l.depth ≤ l.event-index;
      rest : apart_after l.bytes l.child l.depth l.last (drop l.event-index l.events) ≡ apart_after l.bytes l.child 0 None l.events;
    }
