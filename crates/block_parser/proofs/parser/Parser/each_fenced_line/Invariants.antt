use Rattle.std.proofs.Common.{◌≤◌, ◌+◌, length, vec_len}
use denote.Text.{Utf8}
use denote.Shadow.{shadow}
use Rattle.block_parser.proofs.Prelude.{fence_view, HasRead}
use Rattle.block_parser.proofs.FencedLines.{FencedSoFar}
use Rattle.block_parser.proofs.parser.Parser.each_fenced_line.Given as goal

-- the lines so far are content, and were read
abbrev pub invariant-loop-content : goal.invariant-loop-content
invariant-loop-content g l =
    shadow (Utf8 l.rest) × (length l.rest ≤ length l.text) × (l.self.leaves.lines_in_rows + 1 ≤ vec_len l.self.leaves.pieces)
    × FencedSoFar l.on (fence_view l.fence) l.text l.rest (HasRead l.initial.self) l.self l.last

abbrev pub decreases-loop-content : goal.decreases-loop-content
decreases-loop-content g l = length l.rest
