-- Names that begin in vain, and names that go on.
use Rattle.std.proofs.Common.{◌≡◌, ℕ, zero, suc, ◌+◌, ◌-◌, ◌<◌, ◌≤◌, List, [], ◌∷◌, ◌++◌, Bool, true, false, not, ◌&&◌, eqb, None, Some, refl}
use Rattle.std.proofs.Common.{sym, ap, ◌∙◌, get_or, length, take, drop, arith, append_assoc, subst, inl, inr}
use Rattle.std.specs.Prelude.{reverse}
use Rattle.std.proofs.lemmas.Bool.{cases_Bool, cond-true, cond-false, or_from, or_parts, and_left, and_right, and_parts}
use Rattle.std.proofs.lemmas.List.{length-take-le, length-reverse, length-append, reverse-append, drop-take}
use Rattle.std.proofs.Math.Seq.{take-suc}
use Rattle.definition_text.specs.Bytes.{is_letter_or_digit}
use Rattle.definition_text.specs.Content.{content_codes}
use Rattle.definition_inline.specs.GfmAutolinkLiteral.{count_of, ends_literal, has_low_line, is_cut, is_trailing, literal_name, literal_run, without_tail}
use Rattle.definition_inline.specs.GfmAutolinkLiteral.{has_more_closed}
use Rattle.inline_leaves.specs.Leaves.{IsPlain}
use Rattle.inline_leaves.proofs.Codes.{plain_code}
use Rattle.inline_literals.specs.Literals.{begins_domain, begins_name, domain_size, is_in_reference, is_kept, size_after, HasLowLineAt}
use Rattle.inline_literals.proofs.Found.{name_plain}
use Rattle.inline_literals.proofs.Names.{drop_backwards, no_return, not_counted, run_ends, run_goes_on}
use Rattle.definition_inline.proofs.InlineSizes.{tail_fits}
use Rattle.inline_literals.proofs.Tails.{kept_before, kept_last, tail_front}

-- how many bytes a name has
abbrev pub name_length : List ℕ → ℕ
name_length xs = length (literal_name (content_codes xs))

name_is : (xs : List ℕ) → name_length xs ≡ length (without_tail 0 (reverse (literal_run (content_codes xs))))
name_is xs = length-reverse (without_tail 0 (reverse (literal_run (content_codes xs))))

name_fits : (xs : List ℕ) → name_length xs ≤ length (literal_run (content_codes xs))
name_fits xs =
    let run = literal_run (content_codes xs) in
    omega (arith, name_is xs, tail_fits 0 (reverse run), length-reverse run)

-- ---- a name that begins later

run_from : (k : ℕ) (xs : List ℕ) → k ≤ length (literal_run (content_codes xs))
    → literal_run (content_codes xs) ≡ take k xs ++ literal_run (content_codes (drop k xs))
run_from zero xs le = refl
run_from (suc k) [] le = absurd (omega (arith, le))
run_from (suc k) (b ∷ bs) le = elim (cases_Bool (ends_literal b (content_codes bs))) [
  | inl ends ↦ absurd (omega (arith, le, ap length (run_ends b bs ends)))
  | inr goes ↦
      let here : literal_run (content_codes (b ∷ bs)) ≡ b ∷ literal_run (content_codes bs) =
      ap literal_run (plain_code b bs (no_return b (content_codes bs) goes)) ∙ cond-false (ends_literal b (content_codes bs)) _ _ goes in
      here ∙ ap (λ l. b ∷ l) (run_from k bs (omega (arith, le, ap length here)))
]

-- where it has no parenthesis before that, and doesn't end there
name_from : (k : ℕ) (xs : List ℕ) → k < name_length xs → count_of 40 (reverse (take k xs)) ≡ 0 → count_of 41 (reverse (take k xs)) ≡ 0
    → name_length (drop k xs) ≡ name_length xs - k
name_from k xs less opened closed =
    let run = literal_run (content_codes xs) in
    let later = literal_run (content_codes (drop k xs)) in
    let front = reverse (take k xs) in
    let size : length front ≡ k = length-reverse (take k xs) ∙ length-take-le k xs (omega (arith, less, (name_plain xs).within)) in
    let back : reverse run ≡ reverse later ++ front = ap reverse (run_from k xs (omega (arith, less, name_fits xs))) ∙ reverse-append (take k xs) later in
    let whole : name_length xs ≡ length (without_tail 0 (reverse later ++ front)) = name_is xs ∙ ap (λ l. length (without_tail 0 l)) back in
    let same = ap length (tail_front 0 (reverse later) front opened closed (omega (arith, less, size, whole))) in
    omega (arith, size, whole, same, name_is (drop k xs), length-append (without_tail 0 (reverse later)) front)

-- the first bytes of those without a byte are without it
count_drop : (b n : ℕ) (xs : List ℕ) → count_of b xs ≡ 0 → count_of b (drop n xs) ≡ 0
count_drop b zero xs none = none
count_drop b (suc n) [] none = none
count_drop b (suc n) (x ∷ xs) none = elim (cases_Bool (eqb x b)) [
  | inl is ↦
      let more : count_of b (x ∷ xs) ≡ suc (count_of b xs) = ap length (cond-true (eqb x b) _ _ is) in
      absurd (omega (arith, none, more))
  | inr other ↦ count_drop b n xs (sym (not_counted b x xs other) ∙ none)
]

fewer : (b k n : ℕ) (xs : List ℕ) → k ≤ n → n ≤ length xs → count_of b (reverse (take n xs)) ≡ 0 → count_of b (reverse (take k xs)) ≡ 0
fewer b k n xs le within none =
    let left : n - (n - k) ≡ k = omega (arith, le) in
    ap (λ m. count_of b (reverse (take m xs))) (sym left)
    ∙ ap (count_of b) (sym (drop_backwards (n - k) n xs (omega arith) within))
    ∙ count_drop b (n - k) (reverse (take n xs)) none

-- ---- domains

module _ (p : ℕ → Bool) where
  pub domain_fits : (n : ℕ) (xs : List ℕ) → domain_size p n xs ≤ n
  domain_fits zero xs = omega arith
  domain_fits (suc n) [] = omega arith
  domain_fits (suc n) (b ∷ bs) = elim (cases_Bool (begins_domain p b bs)) [
    | inl is ↦ omega (arith, cond-true (begins_domain p b bs) (1 + domain_size p n bs) 0 is, domain_fits n bs)
    | inr other ↦ omega (arith, cond-false (begins_domain p b bs) (1 + domain_size p n bs) 0 other)
  ]

  domain_from : (k n : ℕ) (xs : List ℕ) → k ≤ domain_size p n xs → domain_size p (n - k) (drop k xs) ≡ domain_size p n xs - k
  domain_from zero n xs le =
      let none : n - 0 ≡ n = omega arith in
      let same : domain_size p n xs ≡ domain_size p n xs - 0 = omega arith in
      ap (λ m. domain_size p m xs) none ∙ same
  domain_from (suc k) zero xs le = absurd (omega (arith, le))
  domain_from (suc k) (suc n) [] le = absurd (omega (arith, le))
  domain_from (suc k) (suc n) (b ∷ bs) le = elim (cases_Bool (begins_domain p b bs)) [
    | inl is ↦
        let here = cond-true (begins_domain p b bs) (1 + domain_size p n bs) 0 is in
        let later = domain_from k n bs (omega (arith, le, here)) in
        let count : suc n - suc k ≡ n - k = omega arith in
        let left : domain_size p n bs - k ≡ domain_size p (suc n) (b ∷ bs) - suc k = omega (arith, here) in
        ap (λ m. domain_size p m (drop k bs)) count ∙ later ∙ left
    | inr other ↦ absurd (omega (arith, le, cond-false (begins_domain p b bs) (1 + domain_size p n bs) 0 other))
  ]

  -- one that is as long in the whole text
  pub domain_whole : (n : ℕ) (xs : List ℕ) → domain_size p (length xs) xs ≤ n → domain_size p (length xs) xs ≡ domain_size p n xs
  domain_whole zero [] le = refl
  domain_whole (suc n) [] le = refl
  domain_whole zero (b ∷ bs) le = omega (arith, le)
  domain_whole (suc n) (b ∷ bs) le = elim (cases_Bool (begins_domain p b bs)) [
    | inl is ↦
        let here = cond-true (begins_domain p b bs) (1 + domain_size p (length bs) bs) 0 is in
        let later = domain_whole n bs (omega (arith, le, here)) in
        here ∙ ap (λ k. 1 + k) later ∙ sym (cond-true (begins_domain p b bs) (1 + domain_size p n bs) 0 is)
    | inr other ↦ cond-false (begins_domain p b bs) (1 + domain_size p (length bs) bs) 0 other
        ∙ sym (cond-false (begins_domain p b bs) (1 + domain_size p n bs) 0 other)
  ]

  -- one that goes on after these bytes
  pub domain_part : (n : ℕ) (xs : List ℕ) → n ≤ domain_size p (length xs) xs → n ≡ domain_size p n xs
  domain_part zero xs le = refl
  domain_part (suc n) [] le = absurd (omega (arith, le))
  domain_part (suc n) (b ∷ bs) le = elim (cases_Bool (begins_domain p b bs)) [
    | inl is ↦
        let here = cond-true (begins_domain p b bs) (1 + domain_size p (length bs) bs) 0 is in
        let later = domain_part n bs (omega (arith, le, here)) in
        omega (arith, later, cond-true (begins_domain p b bs) (1 + domain_size p n bs) 0 is)
    | inr other ↦ absurd (omega (arith, le, cond-false (begins_domain p b bs) (1 + domain_size p (length bs) bs) 0 other))
  ]

  -- ---- names in vain

  pub none_begins : (xs : List ℕ) → begins_name p xs ≡ false → size_after p xs ≡ None
  none_begins xs h =
      cond-false (begins_name p xs && not (has_low_line (take (domain_size p (name_length xs) xs) xs))) (Some (name_length xs)) None
      (and_left (begins_name p xs) _ h)

  pub none_named : (xs : List ℕ) → has_low_line (take (domain_size p (name_length xs) xs) xs) ≡ true → size_after p xs ≡ None
  none_named xs low =
      cond-false (begins_name p xs && not (has_low_line (take (domain_size p (name_length xs) xs) xs))) (Some (name_length xs)) None
      (and_right (begins_name p xs) _ (ap not low))

  -- a name at a later place of a domain, up to its last `_`
  pub none_later : (xs : List ℕ) (size at : ℕ) → size ≡ domain_size p (name_length xs) xs → HasLowLineAt (take size xs) at
      → count_of 40 (reverse (take at xs)) ≡ 0 → count_of 41 (reverse (take at xs)) ≡ 0 → (k : ℕ) → k ≤ at → size_after p (drop k xs) ≡ None
  none_later xs size at is low opened closed k le =
      let within = (name_plain xs).within in
      let fits = domain_fits (name_length xs) xs in
      let taken : length (take size xs) ≡ size = length-take-le size xs (omega (arith, is, fits, within)) in
      let less : at < size = omega (arith, low.within, taken) in
      let inside : at ≤ length xs = omega (arith, less, is, fits, within) in
      let name = name_from k xs (omega (arith, le, less, is, fits)) (fewer 40 k at xs le inside opened) (fewer 41 k at xs le inside closed) in
      let left : domain_size p (name_length (drop k xs)) (drop k xs) ≡ size - k =
      ap (λ n. domain_size p n (drop k xs)) name ∙ domain_from k (name_length xs) xs (omega (arith, le, less, is)) ∙ ap (λ n. n - k) (sym is) in
      let count : size ≡ k + (size - k) = omega (arith, le, less) in
      let rest : take (domain_size p (name_length (drop k xs)) (drop k xs)) (drop k xs) ≡ drop k (take size xs) =
      ap (λ n. take n (drop k xs)) left ∙ sym (ap (λ n. drop k (take n xs)) count ∙ drop-take k (size - k) xs) in
      none_named (drop k xs) (ap has_low_line rest ∙ low.refused k le)

  -- the first place
  pub none_here : (xs : List ℕ) → size_after p xs ≡ None → (k : ℕ) → k ≤ 0 → size_after p (drop k xs) ≡ None
  none_here xs none zero le = none
  none_here xs none (suc k) le = absurd (omega (arith, le))

-- ---- a name that goes on

kept_uncut : (c : ℕ) (ys front : List ℕ) → is_kept c ys ≡ true → is_cut c front ≡ false
kept_uncut c ys front h =
    let parts = and_parts (not (is_trailing c)) (not (eqb c 41) && not (is_in_reference ys)) h in
    let apart = and_parts (not (eqb c 41)) (not (is_in_reference ys)) parts.1 in
    or_from (is_trailing c) (eqb c 41 && has_more_closed (c ∷ front)) (no (is_trailing c) parts.0) (and_left (eqb c 41) _ (no (eqb c 41) apart.0))
  where
    no : (t : Bool) → not t ≡ true → t ≡ false
    no true e = sym e
    no false e = refl

kept_run : (c : ℕ) (ys front : List ℕ) → is_kept c ys ≡ true → length front < length (without_tail 0 (reverse (literal_run (content_codes ys)) ++ c ∷ front))
kept_run c [] front h = kept_last c front (kept_uncut c [] front h)
kept_run c (y ∷ ys) front h = elim (cases_Bool (ends_literal y (content_codes ys))) [
  | inl ends ↦
      subst (λ l. length front < length (without_tail 0 (reverse l ++ c ∷ front))) (sym (run_ends y ys ends))
      (kept_last c front (kept_uncut c (y ∷ ys) front h))
  | inr goes ↦
      let run = literal_run (content_codes ys) in
      let here : literal_run (content_codes (y ∷ ys)) ≡ y ∷ run =
      ap literal_run (plain_code y ys (no_return y (content_codes ys) goes)) ∙ cond-false (ends_literal y (content_codes ys)) _ _ goes in
      let other = or_parts (is_letter_or_digit y) (eqb y 59) (outside c (y ∷ ys) h) in
      subst (λ l. length front < length (without_tail 0 l))
      (sym (ap (λ l. reverse l ++ c ∷ front) here ∙ ap (λ l. l ++ c ∷ front) (reverse-append (y ∷ []) run) ∙ append_assoc (reverse run) (y ∷ []) (c ∷ front)))
      (kept_before 0 (reverse run) y c front other.0 other.1 (kept_uncut c (y ∷ ys) front h) (omega arith))
]
  where
    no : (t : Bool) → not t ≡ true → t ≡ false
    no true e = sym e
    no false e = refl

    outside : (c : ℕ) (ys : List ℕ) → is_kept c ys ≡ true → is_in_reference ys ≡ false
    outside c ys h =
        let parts = and_parts (not (is_trailing c)) (not (eqb c 41) && not (is_in_reference ys)) h in
        no (is_in_reference ys) (and_parts (not (eqb c 41)) (not (is_in_reference ys)) parts.1).1

-- a byte that is never cut
pub kept_name : (n : ℕ) (xs : List ℕ) → n < length xs → IsPlain xs n → literal_run (content_codes xs) ≡ take n xs ++ literal_run (content_codes (drop n xs))
    → ends_literal (get_or xs n 0) (content_codes (drop (n + 1) xs)) ≡ false → is_kept (get_or xs n 0) (drop (n + 1) xs) ≡ true → n < name_length xs
kept_name n xs less plain so_far goes kept =
    let c = get_or xs n 0 in
    let later = literal_run (content_codes (drop (n + 1) xs)) in
    let front = reverse (take n xs) in
    let one : n + 1 ≡ suc n = omega arith in
    let next = run_goes_on n xs less plain so_far goes in
    let size : length front ≡ n = length-reverse (take n xs) ∙ length-take-le n xs (omega (arith, less)) in
    let first : reverse (take (n + 1) xs) ≡ c ∷ front =
    ap (λ k. reverse (take k xs)) one ∙ ap reverse (take-suc xs n 0 less) ∙ reverse-append (take n xs) (c ∷ []) in
    let back : reverse (literal_run (content_codes xs)) ≡ reverse later ++ c ∷ front =
    ap reverse next.0 ∙ reverse-append (take (n + 1) xs) later ∙ ap (λ l. reverse later ++ l) first in
    omega (arith, size, name_is xs ∙ ap (λ l. length (without_tail 0 l)) back, kept_run c (drop (n + 1) xs) front kept)
