use Rattle.std.proofs.Common.{◌≡◌, drop}
use Rattle.compile_written.specs.Child.{has_name}
use Rattle.compile_written.proofs.child.has_name.Given as goal

-- none so far
abbrev pub invariant-loop-event : goal.invariant-loop-event
invariant-loop-event l = has_name l.name (drop l.event-index l.events) ≡ has_name l.name l.events
