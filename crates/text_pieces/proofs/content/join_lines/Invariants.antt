use Rattle.std.proofs.Common.{◌≡◌, string_bytes, take}
use Rattle.definition_text.specs.BlockLines.{last_ending}
use Rattle.text_pieces.specs.Pieces.{piece_lines}
use Rattle.definition_text.specs.Content.{content_text}
use Rattle.text_pieces.proofs.content.join_lines.Given as goal

-- the lines so far are there, and the ending of the last one waits
abbrev pub invariant-loop-line : goal.invariant-loop-line
invariant-loop-line g l = record {
  so_far : string_bytes l.content ≡ content_text (piece_lines (take l.line-index l.lines));
  waits : l.waiting ≡ last_ending (piece_lines (take l.line-index l.lines));
}
