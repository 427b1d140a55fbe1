use Rattle.std.proofs.Common.{◌≡◌, ◌≤◌, drop}
use Rattle.compile_written.proofs.Prelude.{text_to}
use Rattle.compile_written.proofs.child.text_to.Given as goal

-- the exit is among the events that are left
abbrev pub invariant-loop-event : goal.invariant-loop-event
invariant-loop-event l =
    record {
      counted : l.depth ≤ l.event-index;
      rest : text_to l.bytes l.from l.depth (drop l.event-index l.events) ≡ text_to l.bytes l.from 0 l.events;
    }
