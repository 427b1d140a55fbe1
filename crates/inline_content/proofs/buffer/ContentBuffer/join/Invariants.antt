use Rattle.std.proofs.Common.{◌≡◌, ◌≤◌, string_bytes, length, take}
use Rattle.std.specs.List.{All}
use Rattle.inline_content.proofs.Prelude.{content_text, IsNonDecreasingBy, last_ending, Mark, mark_place, marks_of, piece_lines}
use Rattle.inline_content.proofs.buffer.ContentBuffer.join.Given as goal

-- the lines so far are there and marked, and the ending of the last one waits
abbrev pub invariant-loop-line : goal.invariant-loop-line
invariant-loop-line g l = record {
  so_far : string_bytes l.self.text ≡ content_text (piece_lines (take l.line-index l.lines));
  marks : l.self.marks.items ≡ marks_of 0 (piece_lines (take l.line-index l.lines));
  before : All (λ (m : Mark). m.place ≤ length (string_bytes l.self.text)) l.self.marks.items;
  ordered : IsNonDecreasingBy mark_place l.self.marks.items;
  waits : l.waiting ≡ last_ending (piece_lines (take l.line-index l.lines));
}
