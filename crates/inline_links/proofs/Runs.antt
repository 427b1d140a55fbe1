-- Whether what stands after a run is escaped: only after an empty one.
use Rattle.std.proofs.Common.{◌≡◌, ℕ, suc, ◌+◌, Bool, true, false, ◌&&◌, refl, ap, ◌∙◌, arith, eqb}
use Rattle.inline_links.proofs.Prelude.{ne_eqb}

pub one_more : (n : ℕ) → 1 + n ≡ suc n
one_more n = omega arith

pub after_none : (escaped : Bool) → (escaped && true) ≡ escaped
after_none true = refl
after_none false = refl

no_escape : (escaped : Bool) → (escaped && false) ≡ false
no_escape true = refl
no_escape false = refl

pub after_some : (escaped : Bool) (n : ℕ) → (escaped && eqb (suc n) 0) ≡ false
after_some escaped n = ap (λ t. escaped && t) (ne_eqb (suc n) 0 (λ e. omega (arith, e))) ∙ no_escape escaped
