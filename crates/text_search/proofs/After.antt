-- A search that begins after bytes that don't pass.
use Rattle.std.proofs.Common.{◌≡◌, ℕ, ◌+◌, ◌-◌, ◌<◌, ◌≤◌, Bool, true, false, not, List, length, get_or, drop, sym, ap, ◌∙◌, subst, arith, inl, inr}
use Rattle.std.proofs.lemmas.Bool.{cases_lt}
use Rattle.std.proofs.lemmas.List.{length-drop, get_or-drop}
use Rattle.std.proofs.lemmas.List.Sums.{position_or_len_is, prefix_len-le-length, fails_before_first, passes_at_first}
use Rattle.std.specs.List.{position_or_len}

pub first_from : (p : ℕ → Bool) (xs : List ℕ) (at r : ℕ) → at ≤ length xs → ((k : ℕ) → k < at → p (get_or xs k 0) ≡ false)
    → r ≡ position_or_len p (drop at xs) → at + r ≡ position_or_len p xs
first_from p xs at r within none is =
    let rest = drop at xs in
    let fits : position_or_len p rest ≤ length rest = prefix_len-le-length (λ x. not (p x)) rest in
    let long : length rest + at ≡ length xs = omega (arith, length-drop at xs, within) in
    sym (position_or_len_is p xs (at + r) 0 (omega (arith, fits, long, is))
    (λ k below. elim (cases_lt k at) [
      | inl early ↦ none k early
      | inr late ↦
          let back : at + (k - at) ≡ k = omega (arith, late) in
          subst (λ x. p x ≡ false) (get_or-drop at xs (k - at) 0 ∙ ap (λ j. get_or xs j 0) back)
          (fails_before_first p rest (k - at) 0 (omega (arith, is, below, late)))
    ])
    (λ inside.
    let lt : position_or_len p rest < length rest = omega (arith, is, inside, long) in
    subst (λ x. p x ≡ true) (ap (λ j. get_or rest j 0) (sym is) ∙ get_or-drop at xs r 0) (passes_at_first p rest 0 lt)))
