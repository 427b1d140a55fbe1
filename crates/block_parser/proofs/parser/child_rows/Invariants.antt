use Rattle.std.proofs.Common.{length}
use denote.Text.{Utf8}
use denote.Shadow.{shadow}
use Rattle.block_parser.proofs.Read.{AllRead}
use Rattle.block_parser.proofs.parser.child_rows.Given as goal

-- the lines so far were read, and what stands after them is known
abbrev pub invariant-loop-left : goal.invariant-loop-left
invariant-loop-left g l = shadow (Utf8 l.left) × AllRead l.on l.initial.here l.initial.left l.left l.here l.parser

abbrev pub decreases-loop-left : goal.decreases-loop-left
decreases-loop-left g l = length l.left
