use Rattle.std.proofs.Common.{◌≡◌, ◌≤◌, ◌-◌, ◌++◌, length}
use Rattle.event_faults.proofs.Prelude.{at_start, check_view, fault_from, marked_from, StandsAt, TakesNone}
use Rattle.event_faults.proofs.Counts.{Counts}
use Rattle.event_faults.proofs.check.first_fault.Given as goal

-- the fault of the events that are left is that of all
abbrev pub invariant-loop-event : goal.invariant-loop-event
invariant-loop-event g l =
    let names = g.T.Tables.reference_of l.tables in
    record {
      rest : fault_from names l.bytes (check_view l.check) (length l.events - length l.left) l.left ≡ fault_from names l.bytes at_start 0 l.events;
      bound : length l.left ≤ length l.events;
      counts : Counts (length l.events - length l.left) (check_view l.check);
      spaces : TakesNone (check_view l.check);
      marked : l.marked.items ++ marked_from (length l.events - length l.left) l.left ≡ l.fn.marked.items ++ marked_from 0 l.events;
      stands : StandsAt l.bytes l.check.spot l.check.known;
    }

abbrev pub decreases-loop-event : goal.decreases-loop-event
decreases-loop-event g l = length l.left
