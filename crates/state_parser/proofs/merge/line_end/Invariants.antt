use Rattle.std.proofs.Common.{◌≡◌, ◌-◌, length}
use Rattle.state_parser.specs.Merge.{line_end}
use Rattle.state_parser.proofs.merge.line_end.Given as goal

-- the line ends where it ends from here on
abbrev pub invariant-loop-index : goal.invariant-loop-index
invariant-loop-index l = line_end l.flow l.end (length l.flow - l.index) l.index ≡ line_end l.flow l.end (length l.flow - l.from) l.from

abbrev pub decreases-loop-index : goal.decreases-loop-index
decreases-loop-index l = length l.flow - l.index
