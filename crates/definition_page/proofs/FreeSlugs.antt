-- Of more numbers of a slug than there are slugs, one is free.
use Rattle.std.proofs.Common.{◌≡◌, ◌<◌, ◌≤◌, ◌+◌, ◌^◌, ℕ, zero, suc, true, false, not, List, ◌∷◌, ◌++◌, length, map, get_or, Some, ◌⊎◌, inl, inr, refl, sym}
use Rattle.std.proofs.Common.{ap, subst, ◌∙◌, unwrap_or, arith}
use Rattle.std.proofs.lemmas.Bool.{cases_Bool, cases_lt, cond-true, cond-false, false_from_ne_true, not_from_true, not_from_false}
use Rattle.std.proofs.lemmas.Fmt.{decimal_injective}
use Rattle.std.proofs.lemmas.List.{append_cancel_left, length-append}
use Rattle.std.proofs.lemmas.List.FromFn.{get_or-map-range_with_len, length-map-range_with_len}
use Rattle.std.proofs.lemmas.Map.Keys.{IsDistinct-from_apart}
use Rattle.std.proofs.lemmas.Map.Made.{length-le_from_is_member}
use Rattle.std.proofs.lemmas.Slice.Eq.{bytes_eq-Decides}
use Rattle.std.proofs.lemmas.Cmp.{nat_list_eq_equiv}
use Rattle.std.specs.Fmt.{decimal}
use Rattle.std.specs.List.{find, list_any, IsDistinct, range_with_len}
use Rattle.std.specs.Str.{bytes_eq}
use Rattle.definition_text.specs.Ascii.{hyphen}
use Rattle.definition_page.specs.Slug.{numbered, is_taken, first_numbered, first_free}

-- a slug is taken with each number below this one
abbrev pub AreTaken : List (List ℕ) → List ℕ → ℕ → Type 0
AreTaken taken slug count = (n : ℕ) → n < count → is_taken taken (numbered slug n) ≡ true

longer : (xs ys : List ℕ) (y : ℕ) → xs ≡ xs ++ y ∷ ys → ⊥
longer xs ys y same =
    let size : length xs ≡ length xs + length (y ∷ ys) = ap length same ∙ length-append xs (y ∷ ys) in
    let some : length (y ∷ ys) ≡ length ys + 1 = omega arith in
    omega arith

-- a number says which of its slugs one is
pub numbered_same : (slug : List ℕ) (m n : ℕ) → m < 2 ^ 64 → n < 2 ^ 64 → numbered slug m ≡ numbered slug n → m ≡ n
numbered_same slug zero zero small_m small_n same = refl
numbered_same slug zero (suc n) small_m small_n same = absurd (longer slug (decimal (suc n)) hyphen same)
numbered_same slug (suc m) zero small_m small_n same = absurd (longer slug (decimal (suc m)) hyphen (sym same))
numbered_same slug (suc m) (suc n) small_m small_n same =
    let ends : hyphen ∷ decimal (suc m) ≡ hyphen ∷ decimal (suc n) = append_cancel_left slug _ _ same in
    let digits : decimal (suc m) ≡ decimal (suc n) = cc in
    decimal_injective (suc m) (suc n) small_m small_n digits

numbered_at : (slug : List ℕ) (count i : ℕ) (d : List ℕ) → i < count → get_or (first_numbered count slug) i d ≡ numbered slug i
numbered_at slug count i d within = get_or-map-range_with_len (numbered slug) 0 count i i d within (omega arith)

numbers_apart : (slug : List ℕ) (count : ℕ) → count ≤ 2 ^ 64 → (i j : ℕ) (d : List ℕ) → i < j → j < count
    → bytes_eq (get_or (first_numbered count slug) i d) (get_or (first_numbered count slug) j d) ≡ false
numbers_apart slug count small i j d before within = false_from_ne_true _ (λ same.
    let texts : numbered slug i ≡ numbered slug j =
    sym (numbered_at slug count i d (omega arith)) ∙ (bytes_eq-Decides _ _).0 same ∙ numbered_at slug count j d within in
    let numbers : i ≡ j = numbered_same slug i j (omega arith) (omega arith) texts in
    omega arith)

numbers_distinct : (slug : List ℕ) (count : ℕ) → count ≤ 2 ^ 64 → IsDistinct bytes_eq (first_numbered count slug)
numbers_distinct slug count small =
    let size : length (first_numbered count slug) ≡ count = length-map-range_with_len (numbered slug) 0 count in
    IsDistinct-from_apart bytes_eq (first_numbered count slug)
    (λ i j d before within. numbers_apart slug count small i j d before (subst (λ n. j < n) size within))

numbered_among : (slug q : List ℕ) (a count : ℕ) → list_any (bytes_eq q) (map (numbered slug) (range_with_len a count)) ≡ true
    → (n : ℕ) × (n < a + count) × (q ≡ numbered slug n)
numbered_among slug q a zero found = cc
numbered_among slug q a (suc count) found = elim (cases_Bool (bytes_eq q (numbered slug a))) [
  | inl here ↦ (a, omega arith, (bytes_eq-Decides q (numbered slug a)).0 here)
  | inr not_here ↦
      let later = numbered_among slug q (a + 1) count (rw not_here at found) in
      let below : later.0 < a + suc count = let it = later.1 in omega arith in
      (later.0, below, later.2)
]

-- at most so many numbers of a slug are taken as there are slugs
pub numbers_fit : (taken : List (List ℕ)) (slug : List ℕ) (count : ℕ) → count ≤ 2 ^ 64 → AreTaken taken slug count → count ≤ length taken
numbers_fit taken slug count small all =
    let size : length (first_numbered count slug) ≡ count = length-map-range_with_len (numbered slug) 0 count in
    subst (λ n. n ≤ length taken) size (length-le_from_is_member nat_list_eq_equiv (first_numbered count slug) taken
    (numbers_distinct slug count small)
    (λ q found.
    let it = numbered_among slug q 0 count found in
    let below : it.0 < count = let within = it.1 in omega arith in
    subst (λ s. is_taken taken s ≡ true) (sym it.2) (all it.0 below)))

-- the first that is free of the slugs from one number on
free_among : (taken : List (List ℕ)) (slug : List ℕ) (a count n : ℕ) → a ≤ n → n < a + count
    → AreTaken taken slug n → is_taken taken (numbered slug n) ≡ false
    → find (λ s. not (is_taken taken s)) (map (numbered slug) (range_with_len a count)) ≡ Some (numbered slug n)
free_among taken slug a zero n from to before free = absurd (omega arith)
free_among taken slug a (suc count) n from to before free = elim (cases_lt a n) [
  | inl later ↦
      cond-false _ _ _ (not_from_true _ (before a later))
      ∙ free_among taken slug (a + 1) count n (omega arith) (omega arith) before free
  | inr here ↦
      let same : n ≡ a = omega arith in
      cond-true _ _ _ (not_from_false _ (subst (λ k. is_taken taken (numbered slug k) ≡ false) same free))
      ∙ ap (λ k. Some (numbered slug k)) (sym same)
]

-- the number with which a slug is free, where it is taken with all before
pub first_free_is : (taken : List (List ℕ)) (slug : List ℕ) (n : ℕ) → n ≤ length taken
    → AreTaken taken slug n → is_taken taken (numbered slug n) ≡ false → numbered slug n ≡ first_free taken slug
first_free_is taken slug n fits before free =
    sym (ap (λ found. unwrap_or found slug) (free_among taken slug 0 (suc (length taken)) n (omega arith) (omega arith) before free))

-- a number with which a slug is free, of so many, or it is taken with each
free_or_taken : (taken : List (List ℕ)) (slug : List ℕ) (count : ℕ)
    → ((n : ℕ) × (n < count) × AreTaken taken slug n × (is_taken taken (numbered slug n) ≡ false)) ⊎ AreTaken taken slug count
free_or_taken taken slug zero = inr (λ n below. absurd (omega arith))
free_or_taken taken slug (suc count) = elim (free_or_taken taken slug count) [
  | inl found ↦ inl (found.0, (let within = found.1 in omega arith), found.2, found.3)
  | inr all ↦ elim (cases_Bool (is_taken taken (numbered slug count))) [
    | inl last ↦ inr (λ n below. elim (cases_lt n count) [
      | inl before ↦ all n before
      | inr at_end ↦
          let same : count ≡ n = omega arith in
          subst (λ k. is_taken taken (numbered slug k) ≡ true) same last
    ])
    | inr free ↦ inl (count, omega arith, all, free)
  ]
]

-- the slug that a further text gets is that of none before it
pub first_free_new : (taken : List (List ℕ)) (slug : List ℕ) → length taken < 2 ^ 64 → is_taken taken (first_free taken slug) ≡ false
first_free_new taken slug small = elim (free_or_taken taken slug (suc (length taken))) [
  | inl found ↦
      let fits : found.0 ≤ length taken = let within = found.1 in omega arith in
      subst (λ s. is_taken taken s ≡ false) (first_free_is taken slug found.0 fits found.2 found.3) found.3
  | inr all ↦
      let full = numbers_fit taken slug (suc (length taken)) (omega arith) all in
      absurd (omega arith)
]
