use Rattle.std.proofs.Common.{length}
use Rattle.compile_rows.proofs.PassedOver.{Reads}
use Rattle.compile_rows.proofs.rows.pass_over.Given as goal

-- what is left reads as all does
abbrev pub invariant-loop-event : goal.invariant-loop-event
invariant-loop-event l = Reads l.depth l.rest l.skipped l.events

abbrev pub decreases-loop-event : goal.decreases-loop-event
decreases-loop-event l = length l.rest
