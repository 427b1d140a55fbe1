use Rattle.std.proofs.Common.{◌-◌, ◌≤◌, length, string_bytes}
use Rattle.std.specs.Str.{IsCharBoundary}
use Rattle.html_escape.specs.Replaced.{replace_bytes}
use Rattle.html_escape.proofs.Waiting.{IsPrintedAt}
use Rattle.html_escape.proofs.replaced.push_replaced.Given as goal

-- what was printed, the bytes that wait to be printed as they are, and what the others are printed as, are what the text is printed as
abbrev pub invariant-loop-at : goal.invariant-loop-at
invariant-loop-at g l = record {
  within : l.at ≤ length l.text;
  in_order : l.start ≤ l.at;
  boundary : IsCharBoundary l.text l.start;
  printed : IsPrintedAt (replace_bytes (g.R.Replacement.printed l.tool)) l.text (string_bytes l.initial.out) (string_bytes l.out) l.start l.at;
}

abbrev pub decreases-loop-at : goal.decreases-loop-at
decreases-loop-at g l = length l.bytes - l.at
