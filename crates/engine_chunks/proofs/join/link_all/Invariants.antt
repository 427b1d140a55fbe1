use Rattle.engine_chunks.proofs.Joining.{IsJoined}
use Rattle.engine_chunks.proofs.join.link_all.Given as goal

abbrev pub invariant-loop-index : goal.invariant-loop-index
invariant-loop-index l = IsJoined l.fn.events l.index l.events
