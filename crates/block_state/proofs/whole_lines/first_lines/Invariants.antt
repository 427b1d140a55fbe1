use Rattle.std.proofs.Common.{take}
use denote.Text.{Utf8}
use denote.Shadow.{shadow}
use Rattle.text_pieces.specs.Pieces.{piece_lines}
use Rattle.block_state.specs.WholeLines.{Begins}
use Rattle.block_state.proofs.whole_lines.first_lines.Given as goal

-- the text begins with the lines so far
abbrev pub invariant-loop-piece : goal.invariant-loop-piece
invariant-loop-piece l = shadow (Utf8 l.rest) × Begins (piece_lines (take l.piece-index l.pieces)) l.text l.rest
