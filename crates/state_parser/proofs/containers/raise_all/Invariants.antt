use Rattle.std.proofs.Common.{◌≡◌, length}
use Rattle.state_parser.specs.LastLines.{all_raised}
use Rattle.state_parser.proofs.containers.raise_all.Given as goal

-- raising those that are left leads where raising all does
abbrev pub invariant-loop-index : goal.invariant-loop-index
invariant-loop-index l = all_raised l.spans l.last l.index ≡ all_raised l.spans l.fn.last (length l.spans)

abbrev pub decreases-loop-index : goal.decreases-loop-index
decreases-loop-index l = l.index
