use Rattle.std.proofs.Common.{◌≡◌, ◌<◌, ℕ, get_or, true}
use Rattle.parse_lines.proofs.Prelude.{is_digit}
use Rattle.parse_lines.proofs.prefix.digits.Given as goal

-- every byte so far is a digit
abbrev pub invariant-loop-i : goal.invariant-loop-i
invariant-loop-i l = (k : ℕ) → k < l.i → is_digit (get_or l.bytes k 0) ≡ true
