-- Domains in bytes.
use Rattle.std.proofs.Common.{◌≡◌, ℕ, suc, ◌+◌, ◌-◌, ◌<◌, List, ◌∷◌, Bool, true, false, ◌||◌, eqb, refl, sym, ap, ◌∙◌, get_or, length, drop, arith}
use Rattle.std.proofs.lemmas.Bool.{cond-true, cond-false}
use Rattle.std.proofs.lemmas.Grind.{common_steps}
use Rattle.std.proofs.Math.Seq.{drop-cons}
use Rattle.std.specs.Prelude.{codes}
use Rattle.definition_text.specs.InlineCode.{is_continuation}
use Rattle.definition_inline.specs.GfmAutolinkLiteral.{is_among}
use Rattle.inline_literals.specs.Literals.{begins_other, begins_domain, domain_size}

module _ (p : ℕ → Bool) where
  here : (n i : ℕ) (xs : List ℕ) → i < n → i < length xs → domain_size p (n - i) (drop i xs)
      ≡ domain_size p (suc (n - (i + 1))) (get_or xs i 0 ∷ drop (i + 1) xs)
  here n i xs less within =
      let count : n - i ≡ suc (n - (i + 1)) = omega (arith, less) in
      let one : suc i ≡ i + 1 = omega arith in
      ap (λ k. domain_size p k (drop i xs)) count
      ∙ ap (domain_size p (suc (n - (i + 1)))) (drop-cons xs i 0 within ∙ ap (λ k. get_or xs i 0 ∷ drop k xs) one)

  pub domain_goes_on : (n i : ℕ) (xs : List ℕ) → i < n → i < length xs → begins_domain p (get_or xs i 0) (drop (i + 1) xs) ≡ true
      → domain_size p (n - i) (drop i xs) ≡ 1 + domain_size p (n - (i + 1)) (drop (i + 1) xs)
  domain_goes_on n i xs less within is = here n i xs less within ∙ cond-true (begins_domain p (get_or xs i 0) (drop (i + 1) xs)) _ 0 is

  pub domain_ends : (n i : ℕ) (xs : List ℕ) → i < n → i < length xs → begins_domain p (get_or xs i 0) (drop (i + 1) xs) ≡ false
      → domain_size p (n - i) (drop i xs) ≡ 0
  domain_ends n i xs less within other = here n i xs less within ∙ cond-false (begins_domain p (get_or xs i 0) (drop (i + 1) xs)) _ 0 other

middle : (x y z : Bool) → x ≡ false → z ≡ false → y ≡ x || (y || z)
middle true y z none last = cc
middle false true z none last = refl
middle false false z none last = sym last

-- a byte that isn't of a domain by itself
pub domain_byte : (p : ℕ → Bool) (b : ℕ) (bs : List ℕ) → is_continuation b ≡ false → is_among (codes "-._") b ≡ false
    → begins_other p (b ∷ bs) ≡ begins_domain p b bs
domain_byte p b bs first among = middle (is_continuation b) (begins_other p (b ∷ bs)) (is_among (codes "-._") b) first among

-- the test as code makes it
pub not_among : (b : ℕ) → (eqb 45 b || (eqb 46 b || (eqb 95 b || false))) ≡ false → is_among (codes "-._") b ≡ false
not_among b other = grind (arith, common_steps)
