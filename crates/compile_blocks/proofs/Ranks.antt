-- The size of a sequence, from 1 to 6.
use Rattle.std.proofs.Common.{◌≡◌, ◌≤◌, ℕ, true, List, length}
use Rattle.std.proofs.lemmas.Bool.{and_parts, leb-true}
use Rattle.std.specs.Prelude.{nat_le}
use Rattle.event_grammar.specs.Facts.{is_size}

pub size_parts : (bs : List ℕ) → is_size 6 bs ≡ true → (1 ≤ length bs) × (length bs ≤ 6)
size_parts bs h = let p = and_parts (nat_le 1 (length bs)) (nat_le (length bs) 6) h in (leb-true 1 (length bs) p.0, leb-true (length bs) 6 p.1)
