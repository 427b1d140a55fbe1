use Rattle.std.proofs.Common.{◌≡◌, ◌≤◌, ◌++◌, drop}
use Rattle.event_check.proofs.Prelude.{aligns_after}
use Rattle.event_check.proofs.align.aligns_in.Given as goal

abbrev pub invariant-loop-index : goal.invariant-loop-index
invariant-loop-index g l =
    record {
      counted : l.depth ≤ l.index;
      rest : l.aligns.items ++ aligns_after l.depth (drop l.index l.events) ≡ aligns_after 0 l.events;
    }
