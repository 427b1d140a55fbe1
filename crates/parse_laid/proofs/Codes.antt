-- Codes that pass a test: those of them that pass another, and the first of them.
use Rattle.std.proofs.Common.{◌≡◌, ℕ, ◌+◌, ◌≤◌, zero, suc, Bool, true, ◌&&◌, List, [], ◌∷◌, inl, inr, refl, ap, ap₂, ◌∙◌, arith, take}
use Rattle.std.proofs.lemmas.Bool.{and_parts, cases_Bool, cond-false, cond-true}
use Rattle.std.specs.List.{filter, list_all, prefix_len}

-- codes that pass, and those of them that are bytes
pub all_filter : (p q : ℕ → Bool) (xs : List ℕ) → list_all p xs ≡ true → list_all p (filter q xs) ≡ true
all_filter p q [] h = refl
all_filter p q (x ∷ xs) h =
    let parts = and_parts (p x) (list_all p xs) h in
    let more = all_filter p q xs parts.1 in
    elim (cases_Bool (q x)) [
      | inl t ↦ ap (list_all p) (cond-true (q x) _ _ t) ∙ ap₂ (λ (a b : Bool). a && b) parts.0 more
      | inr t ↦ ap (list_all p) (cond-false (q x) _ _ t) ∙ more
    ]

pub all_prefix : (p : ℕ → Bool) (k : ℕ) (xs : List ℕ) → k ≤ prefix_len p xs → list_all p (take k xs) ≡ true
all_prefix p zero xs le = refl
all_prefix p (suc k) [] le = refl
all_prefix p (suc k) (x ∷ xs) le =
    elim (cases_Bool (p x)) [
      | inl t ↦
          let size : prefix_len p (x ∷ xs) ≡ 1 + prefix_len p xs = cond-true (p x) _ _ t in
          ap₂ (λ (a b : Bool). a && b) t (all_prefix p k xs (omega (arith, le, size)))
      | inr t ↦ let size : prefix_len p (x ∷ xs) ≡ 0 = cond-false (p x) _ _ t in absurd (omega (arith, le, size))
    ]
