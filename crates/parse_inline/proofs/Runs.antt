-- The search for a run of so many of a byte.
use Rattle.std.proofs.Common.{inl, inr, ◌≡◌, ℕ, suc, ◌+◌, ◌<◌, ◌≤◌, Bool, true, false, not, ◌||◌, List, [], ◌∷◌, length, drop, refl, sym, ap, ◌∙◌, arith}
use Rattle.parse_inline.proofs.Prelude.{cases_Bool, cond-false, cond-true, position_or_len, run, run_of, unwrap_or, ◌==◌}
use Rattle.inline_constructs.proofs.RawTextLemmas.{other_step, past_run, at_run}

module _ (m : ℕ) where
  -- the byte, as a search for two bytes that are the same asks for it
  abbrev pub is_mark : ℕ → Bool
  is_mark c = (c == m) || (c == m)

  pub first_mark : (c : ℕ) (cs : List ℕ) → (c == m) ≡ true → position_or_len is_mark (c ∷ cs) ≡ 0
  first_mark c cs same = cond-false (not (is_mark c)) (1 + position_or_len is_mark cs) 0 (ap (λ b. not (b || b)) same)

  pub other_mark : (c : ℕ) (cs : List ℕ) → (c == m) ≡ false → position_or_len is_mark (c ∷ cs) ≡ suc (position_or_len is_mark cs)
  other_mark c cs other =
      let n = position_or_len is_mark cs in
      cond-true (not (is_mark c)) (1 + n) 0 (ap (λ b. not (b || b)) other) ∙ (let one : 1 + n ≡ suc n = omega arith in one)

  pub mark_within : (xs : List ℕ) → position_or_len is_mark xs ≤ length xs
  mark_within [] = omega arith
  mark_within (c ∷ cs) = elim (cases_Bool (c == m)) [
    | inl same ↦ let first = first_mark c cs same in omega arith
    | inr other ↦ let after = other_mark c cs other in let less = mark_within cs in omega arith
  ]

  -- other bytes hold no run of it
  pub others_passed : (n : ℕ) (xs : List ℕ) → 0 < n → run_of m n false (drop (position_or_len is_mark xs) xs) ≡ run_of m n false xs
  others_passed n [] some = refl
  others_passed n (c ∷ cs) some = elim (cases_Bool (c == m)) [
    | inl same ↦ ap (λ k. run_of m n false (drop k (c ∷ cs))) (first_mark c cs same)
    | inr other ↦
        ap (λ k. run_of m n false (drop k (c ∷ cs))) (other_mark c cs other) ∙ others_passed n cs some ∙ sym (other_step m n false c cs some other)
  ]

  pub mark_first : (xs : List ℕ) → run m (drop (position_or_len is_mark xs) xs) ≡ 0 → drop (position_or_len is_mark xs) xs ≡ []
  mark_first [] none = refl
  mark_first (c ∷ cs) none = elim (cases_Bool (c == m)) [
    | inl same ↦
        let first : run m (c ∷ cs) ≡ 1 + run m cs = cond-true (c == m) (1 + run m cs) 0 same in
        let same_run : run m (c ∷ cs) ≡ 0 = ap (λ k. run m (drop k (c ∷ cs))) (sym (first_mark c cs same)) ∙ none in
        absurd (omega (arith, first, same_run))
    | inr other ↦
        ap (λ k. drop k (c ∷ cs)) (other_mark c cs other) ∙ mark_first cs (ap (λ k. run m (drop k (c ∷ cs))) (sym (other_mark c cs other)) ∙ none)
  ]

  -- past a run of another size
  pub run_passed : (n found : ℕ) (xs : List ℕ) → 0 < n → found ≡ run m xs → (found ≡ n → ⊥) → 0 < found
      → run_of m n false (drop found xs) ≡ run_of m n false xs
  run_passed n found xs some is other more =
      ap (λ k. run_of m n false (drop k xs)) is ∙ sym (past_run m n xs some (omega (arith, sym is)) (λ e. other (is ∙ e)))

  -- where the search ends
  pub run_found : (n found : ℕ) (xs : List ℕ) → 0 < n → found ≡ run m xs → found ≡ n → xs ≡ unwrap_or (run_of m n false xs) []
  run_found n found xs some is same = ap (λ o. unwrap_or o []) (sym (at_run m n xs some (sym is ∙ same)))

  pub nothing_left : (n : ℕ) (xs : List ℕ) → xs ≡ [] → xs ≡ unwrap_or (run_of m n false xs) []
  nothing_left n xs none = none ∙ ap (λ ys. unwrap_or (run_of m n false ys) []) (sym none)
