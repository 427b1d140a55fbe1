-- The last byte of what was printed.
use Rattle.std.proofs.Common.{◌≡◌, ℕ, ◌-◌, suc, List, [], ◌∷◌, Option, Some, length, refl, ap, ◌∙◌, arith}
use Rattle.std.specs.Prelude.{slice_get}

-- the last byte, or the one before these
abbrev pub last_from : Option ℕ → List ℕ → Option ℕ
last_from last [] = last
last_from last (b ∷ bs) = last_from (Some b) bs

pub last_is : (b : ℕ) (bs : List ℕ) → slice_get (b ∷ bs) (length (b ∷ bs) - 1) ≡ last_from (Some b) bs
last_is b [] = refl
last_is b (c ∷ cs) =
    let place : length (b ∷ c ∷ cs) - 1 ≡ suc (length (c ∷ cs) - 1) = omega arith in
    ap (slice_get (b ∷ c ∷ cs)) place ∙ last_is c cs
