-- What is cut from a name's end, wherever the name begins.
use Rattle.std.proofs.Common.{◌≡◌, ℕ, zero, suc, ◌+◌, ◌<◌, ◌≤◌, List, [], ◌∷◌, ◌++◌, false, cond, eqb, ◌&&◌, ◌||◌, refl, sym, ap, ◌∙◌, length, drop}
use Rattle.std.proofs.Common.{arith, subst, inl, inr}
use Rattle.std.specs.Prelude.{codes, nat_le, nat_lt}
use Rattle.std.specs.List.{prefix_len}
use Rattle.std.proofs.lemmas.Bool.{cases_Bool, cond_both, cond-false, cond-true, eqb-true, eqb-false, and_right}
use Rattle.std.proofs.lemmas.List.{length-append, length-drop, drop_all, drop-append-le}
use Rattle.std.proofs.lemmas.List.Sums.{prefix_len-le-length}
use Rattle.std.proofs.lemmas.List.Folds.{prefix_len-append}
use Rattle.definition_text.specs.Bytes.{is_letter_or_digit, begins_with}
use Rattle.definition_inline.specs.GfmAutolinkLiteral.{count_of, is_trailing, is_cut, name_size, cut_more, without_tail}
use Rattle.definition_inline.proofs.InlineSizes.{tail_fits}
use Rattle.inline_literals.proofs.Names.{not_counted, tail_skipped}

-- ---- where it doesn't matter what stands further back

count_front : (b : ℕ) (xs front : List ℕ) → count_of b front ≡ 0 → count_of b (xs ++ front) ≡ count_of b xs
count_front b [] front none = none
count_front b (x ∷ xs) front none = elim (cases_Bool (eqb x b)) [
  | inl is ↦
      ap length (cond-true (eqb x b) _ _ is) ∙ ap suc (count_front b xs front none) ∙ sym (ap length (cond-true (eqb x b) _ _ is))
  | inr other ↦ not_counted b x (xs ++ front) other ∙ count_front b xs front none ∙ sym (not_counted b x xs other)
]

amp_front : (xs front : List ℕ) → 0 < length xs → begins_with (codes "&") (xs ++ front) ≡ begins_with (codes "&") xs
amp_front [] front some = absurd (omega (arith, some))
amp_front (x ∷ xs) front some = refl

-- a reference before a `;`, of so many letters and digits before these
abbrev named : ℕ → List ℕ → ℕ
named n before = cond (nat_le 1 n && begins_with (codes "&") before) (n + 1) 0

name_front : (xs front : List ℕ) → name_size (xs ++ front) < length xs → name_size (xs ++ front) ≡ name_size xs
name_front xs front less =
    let n = prefix_len is_letter_or_digit (xs ++ front) in
    let m = prefix_len is_letter_or_digit xs in
    let both = prefix_len-append is_letter_or_digit xs front in
    elim (cases_Bool (eqb m (length xs))) [
      | inl all ↦
          let whole = eqb-true m (length xs) all in
          let more : length xs ≤ n = omega (arith, both ∙ cond-true (eqb m (length xs)) (length xs + prefix_len is_letter_or_digit front) m all) in
          let none : named m (drop m xs) ≡ 0 =
          cond-false _ (m + 1) 0 (and_right (nat_le 1 m) _ (ap (begins_with (codes "&")) (drop_all m xs (omega (arith, whole))))) in
          elim (cases_Bool (nat_le 1 n && begins_with (codes "&") (drop n (xs ++ front)))) [
            | inl is ↦ absurd (omega (arith, less, more, cond-true _ (n + 1) 0 is))
            | inr other ↦ cond-false _ (n + 1) 0 other ∙ sym none
          ]
      | inr some ↦
          let same : n ≡ m = both ∙ cond-false (eqb m (length xs)) (length xs + prefix_len is_letter_or_digit front) m some in
          let apart : m < length xs = omega (arith, eqb-false m (length xs) some, prefix_len-le-length is_letter_or_digit xs) in
          ap (λ k. named k (drop k (xs ++ front))) same
          ∙ ap (named m) (drop-append-le m xs front (omega (arith, apart)))
          ∙ ap (λ t. cond (nat_le 1 m && t) (m + 1) 0) (amp_front (drop m xs) front (omega (arith, apart, length-drop m xs)))
    ]

more_front : (c : ℕ) (xs front : List ℕ) → cut_more c (xs ++ front) < length xs → cut_more c (xs ++ front) ≡ cut_more c xs
more_front c xs front less = elim (cases_Bool (eqb c 59)) [
  | inl is ↦
      let here = cond-true (eqb c 59) (name_size (xs ++ front)) 0 is in
      here ∙ name_front xs front (omega (arith, less, here)) ∙ sym (cond-true (eqb c 59) (name_size xs) 0 is)
  | inr other ↦ cond-false (eqb c 59) (name_size (xs ++ front)) 0 other ∙ sym (cond-false (eqb c 59) (name_size xs) 0 other)
]

-- so much is left at most
tail_left : (k : ℕ) (xs front : List ℕ) → length front < length (without_tail k (xs ++ front)) → k < length xs
tail_left k xs front some =
    omega (arith, some, ap length (tail_skipped k (xs ++ front)), tail_fits 0 (drop k (xs ++ front)), length-drop k (xs ++ front), length-append xs front)

-- what is cut doesn't depend on text further back that has no parentheses, where some is left after that
pub tail_front : (k : ℕ) (xs front : List ℕ) → count_of 40 front ≡ 0 → count_of 41 front ≡ 0 → length front < length (without_tail k (xs ++ front))
    → without_tail k (xs ++ front) ≡ without_tail k xs ++ front
tail_front k [] front opened closed some = absurd (omega (arith, some, tail_fits k front))
tail_front (suc k) (x ∷ xs) front opened closed some = tail_front k xs front opened closed some
tail_front zero (x ∷ xs) front opened closed some =
    let same : is_cut x (xs ++ front) ≡ is_cut x xs =
    ap (λ n. is_trailing x || (eqb x 41 && nat_lt n (count_of 41 (x ∷ xs ++ front)))) (count_front 40 (x ∷ xs) front opened)
    ∙ ap (λ n. is_trailing x || (eqb x 41 && nat_lt (count_of 40 (x ∷ xs)) n)) (count_front 41 (x ∷ xs) front closed) in
    elim (cases_Bool (is_cut x xs)) [
      | inr left ↦ cond-false (is_cut x (xs ++ front)) _ _ (same ∙ left) ∙ ap (λ l. l ++ front) (sym (cond-false (is_cut x xs) _ _ left))
      | inl cut ↦
          let k = cut_more x (xs ++ front) in
          let step : without_tail 0 (x ∷ xs ++ front) ≡ without_tail k (xs ++ front) = cond-true (is_cut x (xs ++ front)) _ _ (same ∙ cut) in
          let later = subst (λ l. length front < length l) step some in
          let more = more_front x xs front (tail_left k xs front later) in
          step ∙ ap (λ n. without_tail n (xs ++ front)) more
          ∙ tail_front (cut_more x xs) xs front opened closed (subst (λ n. length front < length (without_tail n (xs ++ front))) more later)
          ∙ ap (λ l. l ++ front) (sym (cond-true (is_cut x xs) _ _ cut))
    ]

-- ---- a code that is never cut

pub kept_last : (c : ℕ) (front : List ℕ) → is_cut c front ≡ false → length front < length (without_tail 0 (c ∷ front))
kept_last c front kept = omega (arith, ap length (cond-false (is_cut c front) (without_tail (cut_more c front) front) (c ∷ front) kept))

more_before : (a : ℕ) (xs : List ℕ) (n : ℕ) (front : List ℕ) → is_letter_or_digit n ≡ false → cut_more a (xs ++ n ∷ front) ≤ suc (length xs)
more_before a xs n front other =
    let size = prefix_len is_letter_or_digit (xs ++ n ∷ front) in
    let le : size ≤ length xs =
    subst (λ k. k ≤ length xs) (sym (prefix_len-append is_letter_or_digit xs (n ∷ front)))
    (cond_both (eqb (prefix_len is_letter_or_digit xs) (length xs)) (length xs + prefix_len is_letter_or_digit (n ∷ front)) (prefix_len is_letter_or_digit xs)
    (λ k. k ≤ length xs)
    (λ _. omega (arith, cond-false (is_letter_or_digit n) (1 + prefix_len is_letter_or_digit front) 0 other))
    (λ _. prefix_len-le-length is_letter_or_digit xs)) in
    cond_both (eqb a 59) (name_size (xs ++ n ∷ front)) 0 (λ k. k ≤ suc (length xs))
    (λ _. cond_both (nat_le 1 size && begins_with (codes "&") (drop size (xs ++ n ∷ front))) (size + 1) 0 (λ k. k ≤ suc (length xs)) (λ _. omega (arith, le))
    (λ _. omega arith))
    (λ _. omega arith)

-- before one that is neither a letter, a digit nor `;`
pub kept_before : (k : ℕ) (xs : List ℕ) (n c : ℕ) (front : List ℕ) → is_letter_or_digit n ≡ false → eqb n 59 ≡ false → is_cut c front ≡ false
    → k ≤ suc (length xs) → length front < length (without_tail k (xs ++ n ∷ c ∷ front))
kept_before zero [] n c front other semicolon kept le =
    cond_both (is_cut n (c ∷ front)) (without_tail (cut_more n (c ∷ front)) (c ∷ front)) (n ∷ c ∷ front) (λ (l : List ℕ). length front < length l)
    (λ _. subst (λ k. length front < length (without_tail k (c ∷ front))) (sym (cond-false (eqb n 59) (name_size (c ∷ front)) 0 semicolon))
    (kept_last c front kept))
    (λ _. omega arith)
kept_before (suc zero) [] n c front other semicolon kept le = kept_last c front kept
kept_before (suc (suc k)) [] n c front other semicolon kept le = absurd (omega (arith, le))
kept_before zero (x ∷ xs) n c front other semicolon kept le =
    cond_both (is_cut x (xs ++ n ∷ c ∷ front)) (without_tail (cut_more x (xs ++ n ∷ c ∷ front)) (xs ++ n ∷ c ∷ front)) (x ∷ xs ++ n ∷ c ∷ front)
    (λ (l : List ℕ). length front < length l)
    (λ _. kept_before (cut_more x (xs ++ n ∷ c ∷ front)) xs n c front other semicolon kept (more_before x xs n (c ∷ front) other))
    (λ _. omega (arith, length-append xs (n ∷ c ∷ front)))
kept_before (suc k) (x ∷ xs) n c front other semicolon kept le = kept_before k xs n c front other semicolon kept (omega (arith, le))
