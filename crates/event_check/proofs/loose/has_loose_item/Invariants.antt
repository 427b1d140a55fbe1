use Rattle.std.proofs.Common.{◌≡◌, ◌≤◌, drop}
use Rattle.event_check.proofs.Prelude.{item_after}
use Rattle.event_check.proofs.loose.has_loose_item.Given as goal

abbrev pub invariant-loop-index : goal.invariant-loop-index
invariant-loop-index l =
    record {
      counted : l.depth ≤ l.index;
      rest : item_after l.bytes l.depth (drop l.index l.events) ≡ item_after l.bytes 0 l.events;
    }
