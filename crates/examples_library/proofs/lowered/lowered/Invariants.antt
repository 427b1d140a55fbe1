use Rattle.std.proofs.Common.{length}
use Rattle.examples_library.proofs.lowered.lowered.Given as goal

abbrev pub decreases-loop-rest : goal.decreases-loop-rest
decreases-loop-rest l = length l.rest
