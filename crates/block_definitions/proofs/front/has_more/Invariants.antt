use Rattle.std.proofs.Common.{◌≡◌, ◌≤◌, ◌-◌, length}
use Rattle.block_definitions.proofs.Prelude.{AreLines, content_text, piece_lines}
use Rattle.block_definitions.proofs.Cuts.{LeftOver}
use Rattle.block_definitions.proofs.front.has_more.Given as goal

-- what is left is left of the whole
abbrev pub invariant-loop-end : goal.invariant-loop-end
invariant-loop-end l = record {
  bytes_within : l.at ≤ length l.content;
  lines_within : l.first ≤ length l.lines;
  left : AreLines (piece_lines l.lines) → l.content ≡ content_text (piece_lines l.lines) → LeftOver l.content (piece_lines l.lines) l.at l.first;
}

abbrev pub decreases-loop-end : goal.decreases-loop-end
decreases-loop-end l = length l.content - l.at
