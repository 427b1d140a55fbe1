-- The bytes of a text are below 256.
use Rattle.std.proofs.Common.{◌≡◌, ℕ, zero, suc, ◌<◌, true, ltb, leb, ◌&&◌, List, [], ◌∷◌, ◌++◌, inl, inr, sym, ◌∙◌, take, drop, subst, arith}
use Rattle.std.specs.Char.{encode_utf8}
use Rattle.std.specs.Str.{IsUtf8}
use Rattle.std.proofs.lemmas.Bool.{and_parts, cases_Bool, cases_lt, cond-false, cond-true, le-ltb, lt-ltb, ltb-true}
use Rattle.std.proofs.Math.Utf8.{encodes, scalar, scalars}
use Rattle.event_tokens.specs.Laws.{AreBytes}

-- the same, byte after byte
abbrev EachIsByte : List ℕ → Type 0
EachIsByte [] = Unit {0}
EachIsByte (b ∷ bs) = (b < 256) × EachIsByte bs

appended : (xs ys : List ℕ) → EachIsByte xs → EachIsByte ys → EachIsByte (xs ++ ys)
appended [] ys h k = k
appended (x ∷ xs) ys h k = (h.0, appended xs ys h.1 k)

scalar_bound : (c : ℕ) → scalar c ≡ true → c < 1114112
scalar_bound c h = elim (cases_Bool (ltb c 55296)) [
  | inl l ↦ let k = ltb-true c 55296 l in omega (arith, k)
  | inr g ↦ ltb-true c 1114112 (and_parts (leb 57344 c) (ltb c 1114112) (sym (cond-false (ltb c 55296) true (leb 57344 c && ltb c 1114112) g) ∙ h)).1
]

character_bytes : (c : ℕ) → c < 1114112 → EachIsByte (encode_utf8 c)
unfolding encode_utf8
character_bytes c small = elim (cases_lt c 128) [
  | inl a ↦ subst EachIsByte (sym (cond-true (ltb c 128) _ _ (lt-ltb c 128 a))) (omega (arith, a), tt)
  | inr a ↦ elim (cases_lt c 2048) [
    | inl b ↦ subst EachIsByte (sym (cond-false (ltb c 128) _ _ (le-ltb c 128 a) ∙ cond-true (ltb c 2048) _ _ (lt-ltb c 2048 b)))
        (omega (arith, b), (omega arith, tt))
    | inr b ↦ elim (cases_lt c 65536) [
      | inl d ↦
          subst EachIsByte (sym (cond-false (ltb c 128) _ _ (le-ltb c 128 a) ∙ cond-false (ltb c 2048) _ _ (le-ltb c 2048 b)
          ∙ cond-true (ltb c 65536) _ _ (lt-ltb c 65536 d)))
          (omega (arith, d), (omega arith, (omega arith, tt)))
      | inr d ↦
          subst EachIsByte (sym (cond-false (ltb c 128) _ _ (le-ltb c 128 a) ∙ cond-false (ltb c 2048) _ _ (le-ltb c 2048 b)
          ∙ cond-false (ltb c 65536) _ _ (le-ltb c 65536 d)))
          (omega (arith, small), (omega arith, (omega arith, (omega arith, tt))))
    ]
  ]
]

all_bytes : (cs : List ℕ) → scalars cs ≡ true → EachIsByte (encodes cs)
all_bytes [] h = tt
all_bytes (c ∷ cs) h =
    let k = and_parts (scalar c) (scalars cs) h in
    appended (encode_utf8 c) (encodes cs) (character_bytes c (scalar_bound c k.0)) (all_bytes cs k.1)

byte_at : (bs : List ℕ) → EachIsByte bs → AreBytes bs
byte_at [] h k = omega arith
byte_at (b ∷ bs) h zero = h.0
byte_at (b ∷ bs) h (suc k) = byte_at bs h.1 k

pub utf8_bytes : (bs : List ℕ) → IsUtf8 bs → AreBytes bs
utf8_bytes bs u = byte_at bs (subst EachIsByte u.1.1 (all_bytes u.0 u.1.0))

-- so are those after some, and the first of them
pub bytes_after : (n : ℕ) (bs : List ℕ) → AreBytes bs → AreBytes (drop n bs)
bytes_after zero bs are = are
bytes_after (suc n) [] are = are
bytes_after (suc n) (b ∷ bs) are = bytes_after n bs (λ k. are (suc k))

pub first_bytes : (n : ℕ) (bs : List ℕ) → AreBytes bs → AreBytes (take n bs)
first_bytes zero bs are k = omega arith
first_bytes (suc n) [] are k = omega arith
first_bytes (suc n) (b ∷ bs) are zero = are 0
first_bytes (suc n) (b ∷ bs) are (suc k) = first_bytes n bs (λ j. are (suc j)) k
