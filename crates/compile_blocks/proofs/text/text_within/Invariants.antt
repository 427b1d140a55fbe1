use Rattle.std.proofs.Common.{◌≡◌, length}
use Rattle.compile_blocks.proofs.Prelude.{AreNodes, events_of, Nodes}
use Rattle.compile_blocks.proofs.TextKids.{TextLeft}
use Rattle.compile_blocks.proofs.text.text_within.Given as goal

abbrev pub invariant-loop-node : goal.invariant-loop-node
invariant-loop-node l = record { left : (kids : Nodes) → AreNodes kids → l.events ≡ events_of kids → TextLeft kids l.rest }

abbrev pub decreases-loop-node : goal.decreases-loop-node
decreases-loop-node l = length l.rest
