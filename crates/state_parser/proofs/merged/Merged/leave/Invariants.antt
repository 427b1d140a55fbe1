use Rattle.std.proofs.Common.{◌≡◌, ◌-◌, length}
use Rattle.state_parser.specs.Merged.{left, merged_seen}
use Rattle.state_parser.proofs.merged.Merged.leave.Given as goal

-- ending those that are left leads where ending all does
abbrev pub invariant-loop-count : goal.invariant-loop-count
invariant-loop-count g l = left l.count l.point (merged_seen l.self) ≡ left (length l.fn.self.opened.items - l.kept) l.point (merged_seen l.fn.self)

abbrev pub decreases-loop-count : goal.decreases-loop-count
decreases-loop-count g l = l.count
