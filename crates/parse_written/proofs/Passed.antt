-- What passes a test, as far as it goes.
use Rattle.std.proofs.Common.{inl, inr, ◌≡◌, ℕ, suc, ◌+◌, ◌-◌, Bool, true, ◌&&◌, List, [], ◌∷◌, ◌++◌, refl, sym, ap, ap₂, ◌∙◌, arith, length, take}
use Rattle.std.proofs.Common.{drop, reverse}
use Rattle.parse_written.proofs.Prelude.{after_all, and_parts, cases_Bool, cond-false, cond-true, length-append, prefix_len, reverse-append, reverse-reverse}
use Rattle.parse_written.proofs.Prelude.{take-append-drop}
use Rattle.std.specs.List.{list_all, suffix_len, take_while}
use Rattle.std.proofs.lemmas.List.{drop_at, length-reverse}
use Rattle.std.proofs.lemmas.List.Folds.{length-prefix_len, list_all-append}
use mathlib.Core.List.{reverse-cons}

module _ (test : ℕ → Bool) where
  passed_size : (x : ℕ) (xs : List ℕ) → test x ≡ true → prefix_len test (x ∷ xs) ≡ suc (prefix_len test xs)
  passed_size x xs passes = cond-true (test x) (1 + prefix_len test xs) 0 passes ∙ omega arith

  -- what comes first and passes
  pub passed_all : (xs : List ℕ) → list_all test (take_while test xs) ≡ true
  passed_all [] = refl
  passed_all (x ∷ xs) = elim (cases_Bool (test x)) [
    | inl passes ↦
        ap (λ n. list_all test (take n (x ∷ xs))) (passed_size x xs passes) ∙ ap₂ (λ (s t : Bool). s && t) passes (passed_all xs)
    | inr fails ↦ ap (λ n. list_all test (take n (x ∷ xs))) (cond-false (test x) (1 + prefix_len test xs) 0 fails)
  ]

  -- all pass, and then as many as do
  pub all_prefix : (xs ys : List ℕ) → list_all test xs ≡ true → prefix_len test (xs ++ ys) ≡ length xs + prefix_len test ys
  all_prefix [] ys all = omega arith
  all_prefix (x ∷ xs) ys all =
      let parts = and_parts (test x) (list_all test xs) all in
      passed_size x (xs ++ ys) parts.0
      ∙ (let next : suc (prefix_len test (xs ++ ys)) ≡ suc (length xs) + prefix_len test ys = omega (arith, all_prefix xs ys parts.1) in next)

  pub all_taken : (xs : List ℕ) → list_all test xs ≡ true → take_while test xs ≡ xs
  all_taken [] all = refl
  all_taken (x ∷ xs) all =
      let parts = and_parts (test x) (list_all test xs) all in
      ap (λ n. take n (x ∷ xs)) (passed_size x xs parts.0) ∙ ap (λ ys. x ∷ ys) (all_taken xs parts.1)

  pub none_after : (xs : List ℕ) → list_all test xs ≡ true → after_all test xs ≡ []
  none_after [] all = refl
  none_after (x ∷ xs) all =
      let parts = and_parts (test x) (list_all test xs) all in
      ap (λ n. drop n (x ∷ xs)) (passed_size x xs parts.0) ∙ none_after xs parts.1

  all_reversed : (xs : List ℕ) → list_all test xs ≡ true → list_all test (reverse xs) ≡ true
  all_reversed [] all = refl
  all_reversed (x ∷ xs) all =
      let parts = and_parts (test x) (list_all test xs) all in
      ap (list_all test) (reverse-cons x xs) ∙ list_all-append test (reverse xs) (x ∷ [])
      ∙ ap₂ (λ (s t : Bool). s && (t && true)) (all_reversed xs parts.1) parts.0

  -- what comes last and passes
  pub last_all : (xs : List ℕ) → list_all test (drop (length xs - suffix_len test xs) xs) ≡ true
  last_all xs =
      let back = reverse xs in
      let n = prefix_len test back in
      let last = take n back in
      let parts : xs ≡ reverse (drop n back) ++ reverse last =
      sym (reverse-reverse xs) ∙ ap reverse (sym (take-append-drop n back)) ∙ reverse-append last (drop n back) in
      let whole : length xs ≡ length (reverse (drop n back)) + n =
      omega (
        arith,
        length-reverse xs,
        ap length (take-append-drop n back),
        length-prefix_len test back,
        length-reverse (drop n back),
        length-append last (drop n back),
      ) in
      let size : length (reverse (drop n back)) ≡ length xs - n = omega (arith, whole) in
      ap (λ ys. list_all test (drop (length xs - n) ys)) parts
      ∙ ap (list_all test) (drop_at (reverse (drop n back)) (reverse last) (length xs - n) size)
      ∙ all_reversed last (passed_all back)
