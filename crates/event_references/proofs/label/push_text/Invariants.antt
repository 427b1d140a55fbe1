use Rattle.std.proofs.Common.{◌≡◌, ◌≤◌, ◌++◌, drop}
use Rattle.event_references.proofs.Prelude.{text_after}
use Rattle.event_references.proofs.label.push_text.Given as goal

-- what was read, with what is left to read, is the text of all
abbrev pub invariant-loop-event : goal.invariant-loop-event
invariant-loop-event g l =
    record {
      quoted : l.walk.quoted ≤ l.event-index;
      depth : l.walk.depth ≤ l.event-index;
      read : l.text.items ++ text_after l.bytes l.walk.quoted l.walk.depth l.from (drop l.event-index l.events)
          ≡ l.fn.text.items ++ text_after l.fn.bytes 0 0 l.fn.start l.fn.events;
    }
