use Rattle.std.proofs.Common.{◌≡◌, ◌≤◌, ℕ, [], length, drop}
use Rattle.inline_addresses.proofs.Prelude.{linked_rows, LinkTexts, rows_text, rows_view, walk_rows}
use Rattle.inline_addresses.proofs.walk.linked_rows.Given as goal

-- the walk stands before the rows that are left, and will make of all of them what it should
abbrev pub invariant-loop-row : goal.invariant-loop-row
invariant-loop-row g l = record {
  depth : l.walk.depth ≤ l.row-index;
  within : l.walk.size ≤ length l.walk.text.now;
  text : drop l.walk.size l.walk.text.now ≡ rows_text (drop l.row-index l.rows);
  rows : (at : ℕ → LinkTexts) → walk_rows at l.walk (rows_view at (drop l.row-index l.rows)) ≡ linked_rows 0 [] (rows_view at l.rows);
}
