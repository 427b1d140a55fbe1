use Rattle.std.proofs.Common.{◌≡◌, ◌++◌}
use Rattle.engine_chunks.specs.Chunks.{chunks, chunks_from}
use Rattle.engine_chunks.proofs.chunks.chunks.Given as goal

abbrev pub invariant-loop-left : goal.invariant-loop-left
invariant-loop-left g l = l.found.items ++ chunks_from l.left l.events l.chunk ≡ chunks l.events l.first

abbrev pub decreases-loop-left : goal.decreases-loop-left
decreases-loop-left g l = l.left
