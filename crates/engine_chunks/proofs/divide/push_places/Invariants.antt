use Rattle.std.proofs.Common.{◌≤◌, ◌++◌, length, drop}
use Rattle.engine_chunks.specs.Parts.{places_of, counts}
use Rattle.engine_chunks.proofs.Steps.{Placing}
use Rattle.engine_chunks.proofs.divide.push_places.Given as goal

abbrev pub invariant-loop-chunk : goal.invariant-loop-chunk
invariant-loop-chunk g l =
    (l.from ≤ length l.children)
    × Placing l.events l.children l.places.items (drop l.chunk-index l.chain) l.from l.removed l.added
    (l.fn.places.items ++ places_of l.events l.chain l.children 0 l.fn.before.0 l.fn.before.1)
    (counts l.events l.chain l.children 0 l.fn.before.0 l.fn.before.1)
