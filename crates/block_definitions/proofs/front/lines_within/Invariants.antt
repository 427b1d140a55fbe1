use Rattle.std.proofs.Common.{◌≡◌, ◌≤◌, ◌<◌, ◌-◌, ℕ, suc, length, take}
use Rattle.block_definitions.proofs.Prelude.{piece_lines, total}
use Rattle.block_definitions.proofs.front.lines_within.Given as goal

-- what the lines so far leave; there are no more of them than are asked for
abbrev pub invariant-loop-i : goal.invariant-loop-i
invariant-loop-i l = record {
  left_is : l.left ≡ l.bytes - total (take l.i (piece_lines l.lines));
  fewer : (n : ℕ) → n < length l.lines → total (take n (piece_lines l.lines)) < l.bytes → l.bytes ≤ total (take (suc n) (piece_lines l.lines)) → l.i ≤ suc n;
}
