use Rattle.std.proofs.Common.{◌≡◌, ◌++◌, ◌-◌, take, drop}
use Rattle.block_leaves.proofs.Prelude.{map}
use Rattle.block_leaves.proofs.Changes.{blank_row}
use Rattle.block_leaves.proofs.leaves.Leaves.close_indented.Given as goal

-- the endings of the blank lines so far wait
abbrev pub invariant-loop-i : goal.invariant-loop-i
invariant-loop-i g l = record {
  waiting : l.self.rows.waiting.items ≡ l.initial.self.rows.waiting.items ++ map blank_row
      (take (l.i - l.initial.self.lines_in_rows) (drop l.initial.self.lines_in_rows l.initial.self.pieces.items));
  rows : l.self.rows.rows.items ≡ l.initial.self.rows.rows.items;
  bare : l.self.rows.bare ≡ l.initial.self.rows.bare;
  pieces : l.self.pieces ≡ l.initial.self.pieces;
  items : l.self.pieces.items ≡ l.initial.self.pieces.items;
  same_count : l.self.lines_in_rows ≡ l.initial.self.lines_in_rows;
  leaf : l.self.leaf ≡ l.initial.self.leaf;
}
