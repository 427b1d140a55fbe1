-- Places that rise.
use Rattle.std.proofs.Common.{◌≡◌, ◌+◌, ◌∙◌, ℕ, [], ◌∷◌, ◌++◌, Some, zero, suc, refl, ap, arith, add-one, add-zero}
use Rattle.engine_edits.specs.Replacement.{Places, rising}

rising_suc : (n first : ℕ) → rising first (suc n) ≡ rising first n ++ Some (first + n) ∷ []
rising_suc zero first = rw add-zero refl
rising_suc (suc n) first =
    let e : first + 1 + n ≡ first + suc n = omega arith in
    ap (λ (ps : Places). Some first ∷ ps) (rising_suc n (first + 1) ∙ ap (λ (m : ℕ). rising (first + 1) n ++ Some m ∷ []) e)

-- one more
pub rising_more : (first n : ℕ) → rising first (n + 1) ≡ rising first n ++ Some (first + n) ∷ []
rising_more first n = rw add-one (rising_suc n first)
