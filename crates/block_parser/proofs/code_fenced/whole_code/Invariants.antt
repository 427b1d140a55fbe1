use Rattle.std.proofs.Common.{◌≤◌, length}
use denote.Text.{Utf8}
use denote.Shadow.{shadow}
use Rattle.block_parser.proofs.Prelude.{fence_view}
use Rattle.block_parser.proofs.FencedLines.{CodeSoFar}
use Rattle.block_parser.proofs.code_fenced.whole_code.Given as goal

-- no line so far closes the fence
abbrev pub invariant-loop-rest : goal.invariant-loop-rest
invariant-loop-rest l = shadow (Utf8 l.rest) × (length l.rest ≤ length l.text) × CodeSoFar l.on (fence_view l.fence) l.text l.rest

abbrev pub decreases-loop-rest : goal.decreases-loop-rest
decreases-loop-rest l = length l.rest
