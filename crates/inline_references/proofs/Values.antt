-- The bytes and digits of values.
use Rattle.std.proofs.Common.{◌≡◌, ℕ, ◌+◌, ◌*◌, ◌<◌, ◌≤◌, ◌||◌, Bool, true, List, [], ◌∷◌, refl, inl, inr, length, arith, ap, subst, eqb, lit≤}
use Rattle.std.specs.Prelude.{◌^◌}
use Rattle.std.specs.Char.{digit_value, is_ascii_digit, is_ascii_hexdigit}
use Rattle.std.specs.Int.{is_in_range}
use Rattle.std.specs.List.{fold, list_all}
use Rattle.std.specs.Str.Parse.{AllDigits, IsNumeral, digits_value, digits_value_after, without_leading_plus}
use Rattle.std.proofs.lemmas.Int.Digits.{digits_value-lt}
use Rattle.std.proofs.Math.Nat.{pow-le-pow_right}
use Rattle.std.proofs.lemmas.Bool.Decides.{nat_tests}
use Rattle.std.proofs.lemmas.Bool.{or_cases, and_parts, eqb-true, leb-true, cases_Bool}
use Rattle.std.proofs.lemmas.Str.Parse.{without_leading_plus_none}
use Rattle.definition_inline.specs.CharacterReference.{number_of}
use Rattle.inline_references.specs.Markers.{is_value_byte, value_max, decimal_marker, hexadecimal_marker, is_radix, IsNumber, IsDecodable}

-- the end of a range
in_range_below : (low high b : ℕ) → is_in_range low high b ≡ true → b ≤ high
in_range_below low high b h = leb-true b high (and_parts _ _ h).1

three_ranges : (a b c d e f n : ℕ) → b < 128 → d < 128 → f < 128 → ((is_in_range a b n || is_in_range c d n) || is_in_range e f n) ≡ true → n < 128
three_ranges a b c d e f n p q r h =
    elim (or_cases (is_in_range a b n || is_in_range c d n) (is_in_range e f n) h) [
      | inl i ↦
          elim (or_cases (is_in_range a b n) (is_in_range c d n) i) [
            | inl j ↦ omega (arith, in_range_below a b n j)
            | inr j ↦ omega (arith, in_range_below c d n j)
          ]
      | inr i ↦ omega (arith, in_range_below e f n i)
    ]

-- bytes of values are below 128
pub value_byte_ascii : (marker b : ℕ) → is_value_byte marker b ≡ true → b < 128
value_byte_ascii marker b h =
    elim (cases_Bool (eqb marker hexadecimal_marker)) [
      | inl x ↦ three_ranges 48 57 65 70 97 102 b (omega arith) (omega arith) (omega arith) (rw x at h)
      | inr x ↦
          elim (cases_Bool (eqb marker decimal_marker)) [
            | inl y ↦ omega (arith, in_range_below 48 57 b (rw (x, y) at h))
            | inr y ↦ three_ranges 48 57 65 90 97 122 b (omega arith) (omega arith) (omega arith) (rw (x, y) at h)
          ]
    ]

-- digits have no sign before them
pub without_sign : (radix : ℕ) (digits : List ℕ) → radix ≤ 36 → IsNumeral radix digits → without_leading_plus digits ≡ digits
without_sign radix [] h n = absurd (omega (arith, n.0))
without_sign radix (c ∷ cs) h n =
    without_leading_plus_none (c ∷ cs) (λ e. let big : digit_value 43 < radix = subst (λ d. digit_value d < radix) e n.1.0 in omega arith)

pub small_radix : (radix : ℕ) → is_radix radix ≡ true → radix ≤ 36
small_radix radix h =
    elim (or_cases (eqb radix 10) (eqb radix 16) h) [
      | inl e ↦ let ten = eqb-true radix 10 e in omega arith
      | inr e ↦ let sixteen = eqb-true radix 16 e in omega arith
    ]

-- digits of a number are those that a text may have
digit_ten : (b : ℕ) → is_ascii_digit b ≡ true → digit_value b < 10
digit_ten b h = grind (arith, nat_tests)

digit_sixteen : (b : ℕ) → is_ascii_hexdigit b ≡ true → digit_value b < 16
digit_sixteen b h = grind (arith, nat_tests)

-- bytes that pass a test which digits pass alone are digits
all_digits : (radix : ℕ) (test : ℕ → Bool) → ((b : ℕ) → test b ≡ true → digit_value b < radix) → (bytes : List ℕ) → list_all test bytes ≡ true
    → AllDigits radix bytes
all_digits radix test h [] all = tt
all_digits radix test h (b ∷ bs) all = let parts = and_parts (test b) (list_all test bs) all in (h b parts.0, all_digits radix test h bs parts.1)

-- so few of them that the number fits
number : (radix most : ℕ) (digits : List ℕ) → 0 < radix → radix ^ most ≤ 2 ^ 32 → 1 ≤ length digits → length digits ≤ most → AllDigits radix digits
    → IsNumber radix digits
number radix most digits positive fits nonempty short all = record {
  numeral = (nonempty, all);
  fits = omega (arith, digits_value-lt radix digits all, pow-le-pow_right positive short);
}

-- the value of a reference is a name, or digits of a number that fits
pub decodable : (marker : ℕ) (value : List ℕ) → 1 ≤ length value → length value ≤ value_max marker → list_all (is_value_byte marker) value ≡ true
    → IsDecodable marker value
decodable marker value nonempty short all = record {
  is_decimal = λ e. let most : value_max marker ≡ 7 = ap value_max e in
      number 10 7 value (omega arith) (lit≤ tt) nonempty (omega arith) (all_digits 10 (is_value_byte marker) (λ b p. digit_ten b (rw e at p)) value all);
  is_hexadecimal = λ e. let most : value_max marker ≡ 6 = ap value_max e in
      number 16 6 value (omega arith) (lit≤ tt) nonempty (omega arith) (all_digits 16 (is_value_byte marker) (λ b p. digit_sixteen b (rw e at p)) value all);
}

-- ---- numbers

digits_from : (radix n : ℕ) (digits : List ℕ) → fold (λ n digit. n * radix + digit_value digit) n digits ≡ digits_value_after radix n digits
digits_from radix n [] = refl
digits_from radix n (d ∷ ds) = digits_from radix (n * radix + digit_value d) ds

pub same_number : (radix : ℕ) (digits : List ℕ) → number_of radix digits ≡ digits_value radix digits
same_number radix digits = digits_from radix 0 digits
