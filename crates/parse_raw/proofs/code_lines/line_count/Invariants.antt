use Rattle.std.proofs.Common.{◌≡◌, ◌+◌, length}
use denote.Shadow.{shadow}
use denote.Text.{Utf8}
use Rattle.parse_raw.proofs.Prelude.{lines}
use Rattle.parse_raw.proofs.code_lines.line_count.Given as goal

abbrev pub invariant-loop-rest : goal.invariant-loop-rest
invariant-loop-rest l = record {
  utf8 : shadow (Utf8 l.rest);
  counted : l.count + length (lines l.rest) ≡ length (lines l.text);
}

abbrev pub decreases-loop-rest : goal.decreases-loop-rest
decreases-loop-rest l = length (lines l.rest)
