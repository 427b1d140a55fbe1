use Rattle.std.proofs.Common.{◌≡◌, ◌≤◌, drop, length}
use Rattle.compile_written.proofs.Prelude.{pass_start, pass_view, passed}
use Rattle.compile_written.proofs.list.loose_lists.Given as goal

-- the last events are passed
abbrev pub invariant-loop-end : goal.invariant-loop-end
invariant-loop-end g l =
    record {
      passed : pass_view l.pass ≡ passed l.bytes pass_start (drop l.end l.events);
      within : l.end ≤ length l.events;
    }

abbrev pub decreases-loop-end : goal.decreases-loop-end
decreases-loop-end g l = l.end
