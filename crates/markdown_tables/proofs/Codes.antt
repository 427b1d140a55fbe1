-- One code, or two with a `+` between.
use Rattle.std.proofs.Common.{◌≡◌, ℕ, ◌+◌, ◌<◌, ◌≤◌, ◌^◌, suc, ◌&&◌, Bool, true, false, not, cond, List, [], ◌∷◌, Option, None, Some, length, take, drop, refl}
use Rattle.std.proofs.Common.{sym, ap, ◌∙◌, subst, inl, inr, arith, append-nil, lit≤}
use Rattle.std.specs.Prelude.{nat_le}
use Rattle.std.specs.Char.{digit_value, is_ascii_hexdigit}
use Rattle.std.specs.List.{after_first, before_first, list_all, position_or_len, prefix_len, take_while}
use Rattle.std.specs.Str.Parse.{AllDigits, IsNumeral, digits_value, without_leading_plus}
use Rattle.std.proofs.Math.Nat.{pow-le-pow_right}
use Rattle.std.proofs.lemmas.Bool.{and_left, and_parts, and_right, cases_Bool, cond-false, leb-true}
use Rattle.std.proofs.lemmas.Bool.Decides.{nat_tests}
use Rattle.std.proofs.lemmas.Int.Digits.{digits_value-lt}
use Rattle.definition_text.specs.Bytes.{after_all}
use Rattle.definition_inline.specs.ReferenceRows as spec
use Rattle.definition_inline.specs.ReferenceRows.{scalar_text, codes_text, is_code, is_scalar}
use Rattle.inline_references.proofs.Values.{without_sign}
use Rattle.markdown_tables.specs.RowParts.{are_code_digits, both_texts, is_plus, IsSplitAtPlus}

both-none : (first : Option (List ℕ)) → both_texts first None ≡ None
both-none None = refl
both-none (Some x) = refl

both-nil : (first : Option (List ℕ)) → both_texts first (Some []) ≡ first
both-nil None = refl
both-nil (Some x) = ap Some (append-nil x)

-- a reading of digits, which reads nothing else
abbrev IsReading : (List ℕ → Option (List ℕ)) → Type 0
IsReading read = (digits : List ℕ) → list_all is_ascii_hexdigit digits ≡ false → read digits ≡ None

code_is_reading : IsReading scalar_text
code_is_reading digits bad = cond-false (is_code digits) _ None (and_left _ (is_scalar (digits_value 16 digits)) (and_right _ _ bad))

-- a reading of what follows a digit
after_digit : (read : List ℕ → Option (List ℕ)) → IsReading read → (b : ℕ) → IsReading (λ digits. read (b ∷ digits))
after_digit read is b digits bad = is (b ∷ digits) (and_right (is_ascii_hexdigit b) _ bad)

no_digit : (read : List ℕ → Option (List ℕ)) → IsReading read → (b : ℕ) (bs : List ℕ) → is_ascii_hexdigit b ≡ false → read (b ∷ bs) ≡ None
no_digit read is b bs bad = is (b ∷ bs) (and_left (is_ascii_hexdigit b) _ bad)

-- a `+` is no digit
plus_after : (b : ℕ) → is_ascii_hexdigit b ≡ true → is_plus b ≡ false
plus_after b h = grind (arith, nat_tests)

-- the digits in front, and what follows them
abbrev read_front : (List ℕ → Option (List ℕ)) → List ℕ → Option (List ℕ)
read_front read bytes = both_texts (read (take_while is_ascii_hexdigit bytes)) (spec.second_text (after_all is_ascii_hexdigit bytes))

-- the same where it is known whether the first byte is a digit
abbrev front_at : Bool → (List ℕ → Option (List ℕ)) → ℕ → List ℕ → Option (List ℕ)
front_at digit read b bs =
    let n = cond digit (1 + prefix_len is_ascii_hexdigit bs) 0 in
    both_texts (read (take n (b ∷ bs))) (spec.second_text (drop n (b ∷ bs)))

one_more : (n : ℕ) → 1 + n ≡ suc n
one_more n = omega arith

digit_front : (read : List ℕ → Option (List ℕ)) (b : ℕ) (bs : List ℕ) → front_at true read b bs ≡ read_front (λ digits. read (b ∷ digits)) bs
digit_front read b bs = ap (λ n. both_texts (read (take n (b ∷ bs))) (spec.second_text (drop n (b ∷ bs)))) (one_more (prefix_len is_ascii_hexdigit bs))

-- the place of the first `+`, where it is known whether the first byte is one
place_after : (b : ℕ) (bs : List ℕ) → is_plus b ≡ false → position_or_len is_plus (b ∷ bs) ≡ suc (position_or_len is_plus bs)
place_after b bs other = ap (λ plus. cond (not plus) (1 + position_or_len is_plus bs) 0) other ∙ one_more (position_or_len is_plus bs)

place_here : (b : ℕ) (bs : List ℕ) → is_plus b ≡ true → position_or_len is_plus (b ∷ bs) ≡ 0
place_here b bs here = ap (λ plus. cond (not plus) (1 + position_or_len is_plus bs) 0) here

-- where no `+` stands, the bytes are one code
one_front : (read : List ℕ → Option (List ℕ)) → IsReading read → (bytes : List ℕ) → position_or_len is_plus bytes ≡ length bytes
    → read_front read bytes ≡ read bytes
one_front read is [] h = both-nil (read [])
one_front read is (b ∷ bs) h =
    elim (cases_Bool (is_plus b)) [
      | inl here ↦ let none = place_here b bs here in absurd (omega (arith, h, none))
      | inr other ↦
          elim (cases_Bool (is_ascii_hexdigit b)) [
            | inl digit ↦
                let place = place_after b bs other in
                ap (λ d. front_at d read b bs) digit ∙ digit_front read b bs ∙ one_front (λ digits. read (b ∷ digits)) (after_digit read is b) bs
                (omega (arith, h, place))
            | inr bad ↦
                ap (λ d. front_at d read b bs) bad ∙ ap (both_texts (read [])) (cond-false (is_plus b) (scalar_text bs) None other) ∙ both-none (read [])
                ∙ sym (no_digit read is b bs bad)
          ]
    ]

-- where a `+` stands, they are the codes before and after it
two_front : (read : List ℕ → Option (List ℕ)) → IsReading read → (bytes : List ℕ) → position_or_len is_plus bytes < length bytes
    → read_front read bytes ≡ both_texts (read (before_first is_plus bytes)) (scalar_text (after_first is_plus bytes))
two_front read is [] h = absurd (omega arith)
two_front read is (b ∷ bs) h =
    let parts : ℕ → Option (List ℕ) = λ n. both_texts (read (take n (b ∷ bs))) (scalar_text (drop (n + 1) (b ∷ bs))) in
    elim (cases_Bool (is_plus b)) [
      | inl here ↦
          elim (cases_Bool (is_ascii_hexdigit b)) [
            | inl digit ↦ let not_here = plus_after b digit in cc
            | inr bad ↦
                ap (λ d. front_at d read b bs) bad ∙ ap (λ p. both_texts (read []) (cond p (scalar_text bs) None)) here
                ∙ ap parts (sym (place_here b bs here))
          ]
      | inr other ↦
          let place = place_after b bs other in
          let m = position_or_len is_plus bs in
          let next : suc m + 1 ≡ suc (m + 1) = omega arith in
          let split : parts (suc m) ≡ both_texts (read (b ∷ take m bs)) (scalar_text (drop (m + 1) bs)) =
          ap (λ n. both_texts (read (b ∷ take m bs)) (scalar_text (drop n (b ∷ bs)))) next in
          elim (cases_Bool (is_ascii_hexdigit b)) [
            | inl digit ↦
                ap (λ d. front_at d read b bs) digit ∙ digit_front read b bs ∙ two_front (λ digits. read (b ∷ digits)) (after_digit read is b) bs
                (omega (arith, h, place))
                ∙ sym split ∙ ap parts (sym place)
            | inr bad ↦
                ap (λ d. front_at d read b bs) bad ∙ ap (both_texts (read [])) (cond-false (is_plus b) (scalar_text bs) None other) ∙ both-none (read [])
                ∙ sym (ap (λ r. both_texts r (scalar_text (drop (m + 1) bs))) (no_digit read is b (take m bs) bad)) ∙ sym split ∙ ap parts (sym place)
          ]
    ]

pub one_code : (bytes : List ℕ) → position_or_len is_plus bytes ≡ length bytes → codes_text bytes ≡ scalar_text bytes
one_code bytes h = one_front scalar_text code_is_reading bytes h

pub two_codes : (bytes first second : List ℕ) → IsSplitAtPlus bytes first second → codes_text bytes ≡ both_texts (scalar_text first) (scalar_text second)
two_codes bytes first second h =
    two_front scalar_text code_is_reading bytes h.within
    ∙ ap (λ f. both_texts (scalar_text f) (scalar_text (after_first is_plus bytes))) (sym h.before)
    ∙ ap (λ s. both_texts (scalar_text first) (scalar_text s)) (sym h.after)

-- ---- the number of a code

digit_sixteen : (b : ℕ) → is_ascii_hexdigit b ≡ true → digit_value b < 16
digit_sixteen b h = grind (arith, nat_tests)

all_digits : (digits : List ℕ) → list_all is_ascii_hexdigit digits ≡ true → AllDigits 16 digits
all_digits [] h = tt
all_digits (b ∷ bs) h = let parts = and_parts (is_ascii_hexdigit b) (list_all is_ascii_hexdigit bs) h in (digit_sixteen b parts.0, all_digits bs parts.1)

-- so few digits write a number that fits
pub code_number : (digits : List ℕ) → are_code_digits digits ≡ true → IsNumeral 16 (without_leading_plus digits)
    × (digits_value 16 (without_leading_plus digits) < 2 ^ 32)
code_number digits h =
    let parts = and_parts (nat_le 1 (length digits) && nat_le (length digits) 6) (list_all is_ascii_hexdigit digits) h in
    let sizes = and_parts (nat_le 1 (length digits)) (nat_le (length digits) 6) parts.0 in
    let short : length digits ≤ 6 = leb-true (length digits) 6 sizes.1 in
    let all = all_digits digits parts.1 in
    let numeral : IsNumeral 16 digits = (leb-true 1 (length digits) sizes.0, all) in
    let most : 16 ^ 6 ≤ 2 ^ 32 = lit≤ tt in
    let positive : 0 < 16 = omega arith in
    let fits : digits_value 16 digits < 2 ^ 32 = omega (arith, digits_value-lt 16 digits all, pow-le-pow_right positive short) in
    subst (λ (d : List ℕ). IsNumeral 16 d × (digits_value 16 d < 2 ^ 32)) (sym (without_sign 16 digits (omega arith) numeral)) (numeral, fits)
