-- The first bar is looked for from the first bar or backslash on.
use Rattle.std.proofs.Common.{◌≡◌, ◌≢◌, ℕ, suc, ◌+◌, ◌<◌, ◌≤◌, Bool, List, [], ◌∷◌, ◌||◌, ◌&&◌, true, false, not, eqb, refl, sym, ap, ◌∙◌}
use Rattle.std.proofs.Common.{length, drop, get_or, arith, inl, inr}
use Rattle.std.specs.List.{position_or_len}
use Rattle.block_cells.proofs.Prelude.{bar_at, cases_Bool, cond-false, cond-true, drop_all, drop_more, eqb-true, is_bar, may_escape, or_parts}
use Rattle.std.proofs.lemmas.Bool.{or_cases}
use Rattle.std.proofs.lemmas.List.{length-drop}
use Rattle.std.proofs.lemmas.List.Sums.{passes_at_first, prefix_len-le-length}
use Rattle.block_cells.proofs.Parts.{bar_within}

abbrev pub is_bar_or_backslash : ℕ → Bool
is_bar_or_backslash c = eqb c 124 || eqb c 92

-- no byte before the first bar or backslash divides cells, and none escapes the next one
bar_after : (cs : List ℕ) → bar_at false cs ≡ position_or_len is_bar_or_backslash cs + bar_at false (drop (position_or_len is_bar_or_backslash cs) cs)
bar_after [] = refl
bar_after (c ∷ cs) =
    let n = position_or_len is_bar_or_backslash cs in
    elim (cases_Bool (is_bar_or_backslash c)) [
      | inl h ↦
          let first : position_or_len is_bar_or_backslash (c ∷ cs) ≡ 0 = cond-false (not (is_bar_or_backslash c)) (1 + n) 0 (ap not h) in
          let same : bar_at false (c ∷ cs) ≡ 0 + bar_at false (c ∷ cs) = omega arith in
          same ∙ sym (ap (λ k. k + bar_at false (drop k (c ∷ cs))) first)
      | inr h ↦
          let later : position_or_len is_bar_or_backslash (c ∷ cs) ≡ suc n = cond-true (not (is_bar_or_backslash c)) (1 + n) 0 (ap not h) ∙ omega arith in
          let other = or_parts (eqb c 124) (eqb c 92) h in
          let more = bar_after cs in
          let next : suc (bar_at false cs) ≡ suc n + bar_at false (drop n cs) = omega (arith, more) in
          cond-false (is_bar false c) 0 (suc (bar_at (may_escape false c) cs)) (ap (λ b. b && true) other.0)
          ∙ ap (λ b. suc (bar_at (b && true) cs)) other.1 ∙ next
          ∙ sym (ap (λ k. k + bar_at false (drop k (c ∷ cs))) later)
    ]

module _ (cs : List ℕ) (n : ℕ) (is : n ≡ position_or_len is_bar_or_backslash cs) where
  pub bar_from : bar_at false cs ≡ n + bar_at false (drop n cs)
  bar_from = bar_after cs ∙ sym (ap (λ k. k + bar_at false (drop k cs)) is)

  -- no bar, and no backslash
  pub no_bar : length cs ≤ n → n ≡ bar_at false cs
  no_bar all = let e = bar_from in let none = ap (bar_at false) (drop_all n cs all) in omega (arith, e, none)

  -- a bar with no backslash before it
  pub bar_first : n < length cs → get_or cs n 0 ≢ 92 → n ≡ bar_at false cs
  bar_first lt other =
      let bar : get_or cs n 0 ≡ 124 =
      elim (or_cases (eqb (get_or cs n 0) 124) (eqb (get_or cs n 0) 92)
      (ap (λ k. is_bar_or_backslash (get_or cs k 0)) is ∙ passes_at_first is_bar_or_backslash cs 0 (omega (arith, is, lt)))) [
        | inl h ↦ eqb-true (get_or cs n 0) 124 h
        | inr h ↦ absurd (other (eqb-true (get_or cs n 0) 92 h))
      ] in
      let e = bar_from in
      let none = ap (bar_at false) (drop_more cs n 0 lt ∙ ap (λ b. b ∷ drop (n + 1) cs) bar) in
      omega (arith, e, none)

  -- the bar that is found from there on stands in the line, or at its end
  pub bar_room : bar_at false (drop n cs) + n ≤ length cs
  bar_room =
      let within = bar_within false (drop n cs) in
      let size = length-drop n cs in
      let le = prefix_len-le-length (λ b. not (is_bar_or_backslash b)) cs in
      omega (arith, is, within, size, le)
