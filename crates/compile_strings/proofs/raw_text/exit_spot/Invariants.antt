use Rattle.std.proofs.Common.{◌≡◌, ◌≤◌, drop}
use Rattle.compile_strings.proofs.Prelude.{exit_spot}
use Rattle.compile_strings.proofs.raw_text.exit_spot.Given as goal

-- the exit is among the events that are left
abbrev pub invariant-loop-event : goal.invariant-loop-event
invariant-loop-event l =
    record {
      counted : l.depth ≤ l.event-index;
      rest : exit_spot l.depth (drop l.event-index l.events) ≡ exit_spot 0 l.events;
    }
