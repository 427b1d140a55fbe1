use Rattle.std.proofs.Common.{◌≡◌, ◌≤◌, ◌+◌, ◌++◌, ℕ, List, drop, length}
use denote.Text.{Utf8}
use denote.Shadow.{shadow}
use Rattle.inline_rows.specs.InlineRows.{InlineRow}
use Rattle.inline_addresses.proofs.Prelude.{lines_rows, LinkTexts, walk_rows}
use Rattle.inline_addresses.proofs.walk.Walk.lines.Given as goal

-- the walk stands before the lines that are left, and will make of all of them what it should
abbrev pub invariant-loop-end : goal.invariant-loop-end
invariant-loop-end g l = record {
  utf8 : shadow (Utf8 l.rest);
  depth : l.self.depth ≡ l.initial.self.depth;
  within : l.self.size + length l.rest ≤ length l.self.text.now;
  fewer : l.self.size + length l.rest ≤ l.initial.self.size + length l.text;
  text : drop l.self.size l.self.text.now ≡ l.rest ++ drop (length l.text) (drop l.initial.self.size l.initial.self.text.now);
  rows : (at : ℕ → LinkTexts) (rest : List InlineRow)
      → walk_rows at l.self (lines_rows l.rest ++ rest) ≡ walk_rows at l.initial.self (lines_rows l.text ++ rest);
}

abbrev pub decreases-loop-end : goal.decreases-loop-end
decreases-loop-end g l = length l.rest
