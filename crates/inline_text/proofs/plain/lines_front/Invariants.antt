use Rattle.std.proofs.Common.{◌<◌, ◌-◌, length}
use Rattle.inline_text.specs.Fronts.{AreLines}
use Rattle.inline_text.proofs.plain.lines_front.Given as goal

-- some lines with their endings so far
abbrev pub invariant-loop-at : goal.invariant-loop-at
invariant-loop-at l = (0 < l.at) × AreLines l.has_literals l.has_marks l.bytes l.at

abbrev pub decreases-loop-at : goal.decreases-loop-at
decreases-loop-at l = length l.bytes - l.at
