use Rattle.std.proofs.Common.{◌≡◌, ◌≤◌, length, drop}
use Rattle.engine_edits.specs.Edits.{edits_of}
use Rattle.engine_chunks.specs.Parts.{with_division_at}
use Rattle.engine_chunks.proofs.divide.add_parts.Given as goal

abbrev pub invariant-loop-chunk : goal.invariant-loop-chunk
invariant-loop-chunk g l =
    (l.from ≤ length l.children)
    × (with_division_at l.events (drop l.chunk-index l.chain) l.children l.places l.from (edits_of l.map)
    ≡ with_division_at l.events l.chain l.children l.places 0 (edits_of l.fn.map))
