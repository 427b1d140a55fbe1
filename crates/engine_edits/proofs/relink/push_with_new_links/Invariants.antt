use Rattle.std.proofs.Common.{◌≡◌, ◌++◌, take, map}
use Rattle.engine_edits.specs.Replacement.{with_new_links}
use Rattle.engine_edits.proofs.relink.push_with_new_links.Given as goal

abbrev pub invariant-loop-event : goal.invariant-loop-event
invariant-loop-event g l = l.all.items ≡ l.fn.all.items ++ map (with_new_links l.places) (take l.event-index l.events)
