use Rattle.std.proofs.Common.{◌<◌, ℕ}
use Rattle.markdown_engine.proofs.Prelude.{IsPlace, place_at}
use Rattle.markdown_engine.proofs.fitting.are_places.Given as goal

abbrev pub invariant-loop-event : goal.invariant-loop-event
invariant-loop-event l = (k : ℕ) → k < l.event-index → IsPlace l.bytes (place_at l.events k)
