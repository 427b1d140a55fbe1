-- The first eight and the last eight of few bytes, looked at together.
use Rattle.std.proofs.Common.{◌≡◌, ℕ, ◌+◌, ◌-◌, ◌<◌, ◌≤◌, Bool, true, false, not, List, length, get_or, take, drop, sym, ap, ◌∙◌, subst, arith, inl, inr}
use Rattle.std.proofs.lemmas.Bool.{cases_lt, not-true, not-false}
use Rattle.std.proofs.lemmas.List.{length-append, length-take-le, length-drop, get_or_append_left, get_or-append-add, get_or-take, get_or-drop}
use Rattle.std.proofs.lemmas.List.Sums.{position_or_len_is, prefix_len-le-length, prefix_len_passes, prefix_len_stops}
use Rattle.std.specs.List.{position_or_len, prefix_len}
use Rattle.text_search.specs.Sets.{ends}

module _ (xs : List ℕ) (some : 8 ≤ length xs) where
  first_long : length (take 8 xs) ≡ 8
  first_long = length-take-le 8 xs some

  last_long : length (take 8 (drop (length xs - 8) xs)) ≡ 8
  last_long = length-take-le 8 (drop (length xs - 8) xs) (omega (arith, length-drop (length xs - 8) xs, some))

  pub ends_long : length (ends xs) ≡ 16
  ends_long = omega (arith, length-append (take 8 xs) (take 8 (drop (length xs - 8) xs)), first_long, last_long)

module _ (p : ℕ → Bool) (xs : List ℕ) (r : ℕ) (some : 8 ≤ length xs) (few : length xs ≤ 16) (is : r ≡ prefix_len (λ x. not (p x)) (ends xs)) where
  long : length (ends xs) ≡ 16
  long = ends_long xs some

  pub within : r ≤ 16
  within = omega (arith, is, long, prefix_len-le-length (λ x. not (p x)) (ends xs))

  in_first : (k : ℕ) → k < 8 → get_or (ends xs) k 0 ≡ get_or xs k 0
  in_first k lt = get_or_append_left (take 8 xs) _ 0 k (omega (arith, first_long xs some, lt)) ∙ get_or-take 8 xs k 0 lt

  in_last : (k : ℕ) → k < 8 → get_or (ends xs) (8 + k) 0 ≡ get_or xs (length xs - 8 + k) 0
  in_last k lt =
      ap (λ (n : ℕ). get_or (ends xs) (n + k) 0) (sym (first_long xs some))
      ∙ get_or-append-add (take 8 xs) (take 8 (drop (length xs - 8) xs)) k 0
      ∙ get_or-take 8 (drop (length xs - 8) xs) k 0 lt
      ∙ get_or-drop (length xs - 8) xs k 0

  none : (k : ℕ) → k < r → p (get_or (ends xs) k 0) ≡ false
  none k lt = not-true _ (prefix_len_passes (λ x. not (p x)) (ends xs) k 0 (omega (arith, is, lt)))

  some_at : r < 16 → p (get_or (ends xs) r 0) ≡ true
  some_at lt =
      subst (λ k. p (get_or (ends xs) k 0) ≡ true) (sym is) (not-false _ (prefix_len_stops (λ x. not (p x)) (ends xs) 0 (omega (arith, is, long, lt))))

  -- the first that passes is one of the first eight
  pub ends_early : r < 8 → r ≡ position_or_len p xs
  ends_early early =
      sym (position_or_len_is p xs r 0 (omega (arith, early, some))
      (λ k lt. subst (λ x. p x ≡ false) (in_first k (omega (arith, lt, early))) (none k lt))
      (λ inside. subst (λ x. p x ≡ true) (in_first r early) (some_at (omega (arith, early)))))

  -- or else one of the last eight, if any passes
  pub ends_late : 8 ≤ r → length xs + r - 16 ≡ position_or_len p xs
  ends_late late =
      sym (position_or_len_is p xs (length xs + r - 16) 0 (omega (arith, within))
      (λ k lt. elim (cases_lt k 8) [
        | inl early ↦ subst (λ x. p x ≡ false) (in_first k early) (none k (omega (arith, early, late)))
        | inr after ↦
            let back : length xs - 8 + (k + 8 - length xs) ≡ k = omega (arith, after, some, few) in
            subst (λ x. p x ≡ false) (in_last (k + 8 - length xs) (omega (arith, lt, within, some)) ∙ ap (λ j. get_or xs j 0) back)
            (none (8 + (k + 8 - length xs)) (omega (arith, lt, after, some, few)))
      ])
      (λ inside.
      let short : r < 16 = omega (arith, inside, some) in
      let place : length xs - 8 + (r - 8) ≡ length xs + r - 16 = omega (arith, late, some, few) in
      let lane : 8 + (r - 8) ≡ r = omega (arith, late) in
      subst (λ x. p x ≡ true)
      (ap (λ j. get_or (ends xs) j 0) (sym lane) ∙ in_last (r - 8) (omega (arith, short, late)) ∙ ap (λ j. get_or xs j 0) place)
      (some_at short)))
