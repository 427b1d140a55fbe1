-- Bytes of addresses are ASCII.
use Rattle.std.proofs.Common.{◌≡◌, ℕ, ◌<◌, ◌≤◌, Bool, true, false, ◌||◌, ◌⊎◌, List, [], ◌∷◌, eqb, refl, sym, arith, inl, inr}
use Rattle.std.specs.Prelude.{nat_lt}
use Rattle.std.specs.Int.{is_in_range}
use Rattle.std.specs.List.{list_all}
use Rattle.std.proofs.lemmas.Bool.{and_parts, leb-true, ltb-true, eqb-true, true≢false}
use Rattle.definition_text.specs.Bytes.{is_letter, is_letter_or_digit}
use Rattle.definition_inline.specs.GfmAutolinkLiteral.{is_among, is_user_byte}

-- one of two that hold
one_of : (a b : Bool) → (a || b) ≡ true → (a ≡ true) ⊎ (b ≡ true)
one_of true b h = inl refl
one_of false b h = inr h

in_range : (low high c : ℕ) → is_in_range low high c ≡ true → c ≤ high
in_range low high c h = leb-true c high (and_parts _ _ h).1

pub letter_ascii : (c : ℕ) → is_letter c ≡ true → c < 128
letter_ascii c h = elim (one_of (is_in_range 65 90 c) (is_in_range 97 122 c) h) [
  | inl a ↦ omega (arith, in_range 65 90 c a)
  | inr b ↦ omega (arith, in_range 97 122 c b)
]

pub letter_or_digit_ascii : (c : ℕ) → is_letter_or_digit c ≡ true → c < 128
letter_or_digit_ascii c h = elim (one_of (is_in_range 48 57 c || is_in_range 65 90 c) (is_in_range 97 122 c) h) [
  | inl a ↦ elim (one_of (is_in_range 48 57 c) (is_in_range 65 90 c) a) [
    | inl d ↦ omega (arith, in_range 48 57 c d)
    | inr u ↦ omega (arith, in_range 65 90 c u)
  ]
  | inr b ↦ omega (arith, in_range 97 122 c b)
]

pub user_ascii : (c : ℕ) → is_user_byte c ≡ true → c < 128
user_ascii c h = elim (one_of (is_letter_or_digit c) _ h) [
  | inl a ↦ letter_or_digit_ascii c a
  | inr b ↦ mark c b
]
  where
    mark : (c : ℕ) → (eqb c 43 || (eqb c 45 || (eqb c 46 || (eqb c 95 || false)))) ≡ true → c < 128
    mark c h = elim (one_of (eqb c 43) _ h) [
      | inl a ↦ omega (arith, eqb-true c 43 a)
      | inr b ↦ elim (one_of (eqb c 45) _ b) [
        | inl d ↦ omega (arith, eqb-true c 45 d)
        | inr e ↦ elim (one_of (eqb c 46) _ e) [
          | inl f ↦ omega (arith, eqb-true c 46 f)
          | inr g ↦ elim (one_of (eqb c 95) false g) [
            | inl k ↦ omega (arith, eqb-true c 95 k)
            | inr l ↦ absurd (true≢false (sym l))
          ]
        ]
      ]
    ]

-- one of bytes that are ASCII
pub among_ascii : (text : List ℕ) (c : ℕ) → list_all (λ t. nat_lt t 128) text ≡ true → is_among text c ≡ true → c < 128
among_ascii [] c low h = absurd (true≢false (sym h))
among_ascii (t ∷ ts) c low h =
    let parts = and_parts (nat_lt t 128) (list_all (λ t. nat_lt t 128) ts) low in
    elim (one_of (eqb c t) (is_among ts c) h) [
      | inl here ↦ omega (arith, eqb-true c t here, ltb-true t 128 parts.0)
      | inr later ↦ among_ascii ts c parts.1 later
    ]
