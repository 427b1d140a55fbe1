-- Characters by their number.
use Rattle.std.proofs.Common.{◌≡◌, ℕ, zero, suc, ◌+◌, ◌-◌, ◌*◌, ◌<◌, ◌≤◌, Bool, true, false, ◌||◌, refl, sym, ap, ◌∙◌, arith, inl, inr}
use Rattle.std.specs.Prelude.{min, ◌^◌, ◌%◌, ◌==◌, nat_le}
use Rattle.std.specs.Char.{encode_utf8}
use Rattle.std.specs.Int.{is_in_range}
use Rattle.std.proofs.lemmas.Bool.{cases_Bool, cond-true, leb-false}
use Rattle.std.proofs.lemmas.Bool.{le-leb, leb-true}
use Rattle.std.proofs.Math.Nat.{le-mul_of_pos_right, mul-zero}
use Rattle.definition_inline.specs.CharacterReference.{is_replaced, character_of, numbered_text}

-- the greatest number that fits
abbrev pub greatest : ℕ
greatest = 2 ^ 32 - 1

fits : (n : ℕ) → nat_le n greatest ≡ true → n ≡ min n greatest
fits n h = omega (arith, leb-true n greatest h)

is_large : (n : ℕ) → nat_le n greatest ≡ false → greatest < n
is_large n h = leb-false n greatest h

exceeds : (n : ℕ) → nat_le n greatest ≡ false → greatest ≡ min n greatest
exceeds n h = omega (arith, leb-false n greatest h)

large_replaced : (n : ℕ) → 0x10_FFFF < n → is_replaced n ≡ true
large_replaced n large =
    let front = nat_le n 8 || (n == 11) || is_in_range 14 31 n || is_in_range 127 159 n || is_in_range 0xD800 0xDFFF n || is_in_range 0xFDD0 0xFDEF n
    || nat_le 0xFFFE (n % 0x1_0000) in
    ap (λ t. front || t) (le-leb 0x11_0000 n (omega arith)) ∙ or_true front
  where
    or_true : (t : Bool) → (t || true) ≡ true
    or_true true = refl
    or_true false = refl

-- the character of a number, by that of one that stops at the greatest that fits
same_character : (n : ℕ) → character_of n ≡ character_of (min n greatest)
same_character n = elim (cases_Bool (nat_le n greatest)) [
  | inl h ↦ ap character_of (fits n h)
  | inr h ↦
      cond-true (is_replaced n) 0xFFFD n (large_replaced n (omega (arith, is_large n h)))
      ∙ sym (cond-true (is_replaced greatest) 0xFFFD greatest (large_replaced greatest (omega arith)))
      ∙ ap character_of (exceeds n h)
]

pub number_text : (n : ℕ) → numbered_text n ≡ encode_utf8 (character_of (min n greatest))
number_text n = ap encode_utf8 (same_character n)

-- ---- one more digit

stopped_positive : (n radix : ℕ) → 0 < radix → min (min n greatest * radix) greatest ≡ min (n * radix) greatest
stopped_positive n radix some = elim (cases_Bool (nat_le n greatest)) [
  | inl h ↦ ap (λ m. min (m * radix) greatest) (sym (fits n h))
  | inr h ↦
      let e : greatest ≡ min n greatest = exceeds n h in
      let first : greatest ≤ greatest * radix = le-mul_of_pos_right greatest some in
      let second : n ≤ n * radix = le-mul_of_pos_right n some in
      ap (λ m. min (m * radix) greatest) (sym e) ∙ above (greatest * radix) (n * radix) first (omega (arith, second, is_large n h))
]
  where
    above : (p q : ℕ) → greatest ≤ p → greatest ≤ q → min p greatest ≡ min q greatest
    above p q a b = omega arith

stopped_product : (n radix : ℕ) → min (min n greatest * radix) greatest ≡ min (n * radix) greatest
stopped_product n zero = ap (λ m. min m greatest) (mul-zero (min n greatest) ∙ sym (mul-zero n))
stopped_product n (suc r) = stopped_positive n (suc r) (omega arith)

stopped_sum : (p q d : ℕ) → min p greatest ≡ min q greatest → min (min p greatest + d) greatest ≡ min (q + d) greatest
stopped_sum p q d e = omega (arith, e)

pub stopped_step : (n radix d : ℕ) → min (min (min n greatest * radix) greatest + d) greatest ≡ min (n * radix + d) greatest
stopped_step n radix d = stopped_sum (min n greatest * radix) (n * radix) d (stopped_product n radix)
