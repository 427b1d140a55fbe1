use Rattle.std.proofs.Common.{◌≡◌, ◌++◌, string_bytes, take}
use Rattle.html_leaves.proofs.Prelude.{code_of, last_ending, own_lines, piece_lines}
use Rattle.html_leaves.proofs.code_lines.push_code_lines.Given as goal

-- the lines so far are printed, and the ending of the last one waits
abbrev pub invariant-loop-line : goal.invariant-loop-line
invariant-loop-line g l = record {
  printed : string_bytes l.out ≡ string_bytes l.initial.out ++ code_of (own_lines (piece_lines (take l.line-index l.lines)));
  waits : l.waiting ≡ last_ending (piece_lines (take l.line-index l.lines));
}
