use Rattle.std.proofs.Common.{◌≡◌, ◌++◌, map, take, drop, length}
use Rattle.markdown_buffers.specs.FlatEvents.{flat_event}
use Rattle.markdown_buffers.proofs.flat_event.write_events.Given as goal

abbrev pub invariant-loop-index : goal.invariant-loop-index
invariant-loop-index l = (length l.array ≡ length l.fn.array) × (l.array ≡ map flat_event (take l.index l.events) ++ drop l.index l.fn.array)
