use Rattle.std.proofs.Common.{◌≡◌, ℕ, ◌<◌, get_or, true}
use Rattle.html_unsafe_place.specs.What.{is_name_byte}
use Rattle.html_unsafe_place.proofs.what.name_of.Given as goal

-- all so far are letters and digits
abbrev pub invariant-loop-i : goal.invariant-loop-i
invariant-loop-i l = (k : ℕ) → k < l.i → is_name_byte (get_or l.bytes k 0) ≡ true
