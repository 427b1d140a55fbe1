-- Characters whose bytes all stand in a line: their kinds don't depend on its ending (UTF-8).
use Rattle.std.proofs.Common.{◌≡◌, ℕ, zero, suc, ◌+◌, ◌/◌, ◌%◌, ◌<◌, ◌≤◌, Bool, true, false, cond, eqb, ltb, leb, ◌||◌, List, [], ◌∷◌, ◌++◌, inl, inr, ⊎_elim}
use Rattle.std.proofs.Common.{refl, sym, ap, ◌∙◌, subst, arith, IsUtf8, drop}
use Rattle.std.specs.Char.{encode_utf8, IsScalar}
use Rattle.std.specs.Str.{encode_utf8_all, all_scalars}
use lib.Utf8.{scalar_cases}
use Rattle.laws_endings.proofs.Prelude.{and_from, and_left, and_parts, and_right, both_ways, cond-false, cond-true, counts_after, is_continuation, lt-ltb}
use Rattle.laws_endings.proofs.Prelude.{ne_eqb}
use Rattle.std.proofs.lemmas.Bool.{cases_lt, le-ltb, le-leb, lt-leb}
use Rattle.laws_endings.proofs.Each.{Each}

-- how many bytes of a character follow its first
abbrev pub need : ℕ → ℕ
need c = cond (ltb c 128) 0 (cond (ltb c 224) 1 (cond (ltb c 240) 2 3))

-- so many bytes that continue a character stand ahead
abbrev pub Begins : ℕ → List ℕ → Type 0
Begins zero cs = Unit {0}
Begins (suc n) [] = true ≡ false
Begins (suc n) (c ∷ cs) = (is_continuation c ≡ true) × Begins n cs

-- a byte that continues a character comes first
abbrev pub continues_one : List ℕ → Bool
continues_one [] = false
continues_one (c ∷ cs) = is_continuation c

-- the bytes of a character that begins here follow it, and a character begins after a byte after which its kind counts
abbrev pub IsWhole : ℕ → List ℕ → Type 0
IsWhole c cs = (is_continuation c ≡ false → Begins (need c) cs) × (counts_after c ≡ true → continues_one cs ≡ false)

abbrev pub AreWhole : List ℕ → Type 0
AreWhole [] = Unit {0}
AreWhole (c ∷ cs) = IsWhole c cs × AreWhole cs

pub whole-drop : (n : ℕ) (cs : List ℕ) → AreWhole cs → AreWhole (drop n cs)
whole-drop zero cs w = w
whole-drop (suc n) [] w = tt
whole-drop (suc n) (c ∷ cs) w = whole-drop n cs w.1

-- ---- bytes of a character

goes_on : (x : ℕ) → 128 ≤ x → x < 192 → is_continuation x ≡ true
goes_on x h l = and_from (leb 128 x) (ltb x 192) (le-leb 128 x h) (lt-ltb x 192 l)

starts_low : (x : ℕ) → x < 128 → is_continuation x ≡ false
starts_low x l = and_left (leb 128 x) (ltb x 192) (lt-leb 128 x l)

starts_high : (x : ℕ) → 192 ≤ x → is_continuation x ≡ false
starts_high x h = and_right (leb 128 x) (ltb x 192) (le-ltb x 192 h)

no_count : (x : ℕ) → 128 ≤ x → counts_after x ≡ false
no_count x h =
    let apart : (y : ℕ) → y < 128 → eqb x y ≡ false = λ y l. ne_eqb x y (λ is. omega (arith, is, h, l)) in
    ap (λ b. (b || (eqb x 95 || (eqb x 126 || eqb x 61))) || (eqb x 46 || eqb x 47)) (apart 42 (omega arith))
    ∙ ap (λ b. (b || (eqb x 126 || eqb x 61)) || (eqb x 46 || eqb x 47)) (apart 95 (omega arith))
    ∙ ap (λ b. (b || eqb x 61) || (eqb x 46 || eqb x 47)) (apart 126 (omega arith))
    ∙ ap (λ b. b || (eqb x 46 || eqb x 47)) (apart 61 (omega arith))
    ∙ ap (λ b. b || eqb x 47) (apart 46 (omega arith))
    ∙ apart 47 (omega arith)

-- after a byte that continues a character no kind counts, and none begins there
whole_more : (x : ℕ) (cs : List ℕ) → 128 ≤ x → x < 192 → IsWhole x cs
whole_more x cs h l =
    (λ starts. absurd (both_ways (is_continuation x) starts (goes_on x h l)), λ marks. absurd (both_ways (counts_after x) (no_count x h) marks))

-- the first byte of a character of several
whole_first : (x : ℕ) (cs : List ℕ) → 192 ≤ x → Begins (need x) cs → IsWhole x cs
whole_first x cs h b = (λ _. b, λ marks. absurd (both_ways (counts_after x) (no_count x (omega (arith, h))) marks))

need_one : (x : ℕ) → 128 ≤ x → x < 224 → need x ≡ 1
need_one x h l = cond-false (ltb x 128) _ _ (le-ltb x 128 h) ∙ cond-true (ltb x 224) _ _ (lt-ltb x 224 l)

need_two : (x : ℕ) → 224 ≤ x → x < 240 → need x ≡ 2
need_two x h l =
    cond-false (ltb x 128) _ _ (le-ltb x 128 (omega (arith, h))) ∙ cond-false (ltb x 224) _ _ (le-ltb x 224 h) ∙ cond-true (ltb x 240) _ _ (lt-ltb x 240 l)

need_three : (x : ℕ) → 240 ≤ x → need x ≡ 3
need_three x h =
    cond-false (ltb x 128) _ _ (le-ltb x 128 (omega (arith, h))) ∙ cond-false (ltb x 224) _ _ (le-ltb x 224 (omega (arith, h)))
    ∙ cond-false (ltb x 240) _ _ (le-ltb x 240 h)

-- ---- a character before a text

-- a byte is neither of the codes that are none
abbrev pub IsTextByte : ℕ → Type 0
IsTextByte c = (eqb c 256 ≡ false) × (eqb c 257 ≡ false)

-- a text of whole characters whose bytes are no code of a line ending but CR and LF
pub record Spelled (cs : List ℕ) : Type 0 where
  pub whole : AreWhole cs
  pub starts : continues_one cs ≡ false
  pub bytes : Each IsTextByte cs

apart_from : (x : ℕ) → x < 256 → IsTextByte x
apart_from x l = (ne_eqb x 256 (λ is. omega (arith, is, l)), ne_eqb x 257 (λ is. omega (arith, is, l)))

spell_one : (c : ℕ) (l : List ℕ) → c < 128 → Spelled l → Spelled (c ∷ l)
spell_one c l a s =
    let short : need c ≡ 0 = cond-true (ltb c 128) _ _ (lt-ltb c 128 a) in
    record {
      whole = ((λ _. subst (λ n. Begins n l) (sym short) tt, λ _. s.starts), s.whole);
      starts = starts_low c a;
      bytes = (apart_from c (omega (arith, a)), s.bytes);
    }

spell_two : (x y : ℕ) (l : List ℕ) → 192 ≤ x → x < 224 → 128 ≤ y → y < 192 → Spelled l → Spelled (x ∷ y ∷ l)
spell_two x y l x1 x2 y1 y2 s =
    record {
      whole = (
        whole_first x (y ∷ l) x1 (subst (λ n. Begins n (y ∷ l)) (sym (need_one x (omega (arith, x1)) x2)) (goes_on y y1 y2, tt)),
        (whole_more y l y1 y2, s.whole),
      );
      starts = starts_high x x1;
      bytes = (apart_from x (omega (arith, x2)), (apart_from y (omega (arith, y2)), s.bytes));
    }

spell_three : (x y z : ℕ) (l : List ℕ) → 224 ≤ x → x < 240 → 128 ≤ y → y < 192 → 128 ≤ z → z < 192 → Spelled l → Spelled (x ∷ y ∷ z ∷ l)
spell_three x y z l x1 x2 y1 y2 z1 z2 s =
    record {
      whole = (
        whole_first x (y ∷ z ∷ l) (omega (arith, x1))
            (subst (λ n. Begins n (y ∷ z ∷ l)) (sym (need_two x x1 x2)) (goes_on y y1 y2, (goes_on z z1 z2, tt))),
        (whole_more y (z ∷ l) y1 y2, (whole_more z l z1 z2, s.whole)),
      );
      starts = starts_high x (omega (arith, x1));
      bytes = (apart_from x (omega (arith, x2)), (apart_from y (omega (arith, y2)), (apart_from z (omega (arith, z2)), s.bytes)));
    }

spell_four : (x y z w : ℕ) (l : List ℕ) → 240 ≤ x → x < 256 → 128 ≤ y → y < 192 → 128 ≤ z → z < 192 → 128 ≤ w → w < 192 → Spelled l
    → Spelled (x ∷ y ∷ z ∷ w ∷ l)
spell_four x y z w l x1 x2 y1 y2 z1 z2 w1 w2 s =
    record {
      whole = (
        whole_first x (y ∷ z ∷ w ∷ l) (omega (arith, x1))
            (subst (λ n. Begins n (y ∷ z ∷ w ∷ l)) (sym (need_three x x1)) (goes_on y y1 y2, (goes_on z z1 z2, (goes_on w w1 w2, tt)))),
        (whole_more y (z ∷ w ∷ l) y1 y2, (whole_more z (w ∷ l) z1 z2, (whole_more w l w1 w2, s.whole))),
      );
      starts = starts_high x (omega (arith, x1));
      bytes = (
        apart_from x x2,
        (apart_from y (omega (arith, y2)), (apart_from z (omega (arith, z2)), (apart_from w (omega (arith, w2)), s.bytes))),
      );
    }

spell_more : (c : ℕ) (l : List ℕ) → c < 2097152 → Spelled l → Spelled (encode_utf8 c ++ l)
unfolding encode_utf8
spell_more c l small s = elim (cases_lt c 128) [
  | inl a ↦ subst (λ bs. Spelled (bs ++ l)) (sym (cond-true (ltb c 128) _ _ (lt-ltb c 128 a))) (spell_one c l a s)
  | inr a ↦ elim (cases_lt c 2048) [
    | inl b ↦
        subst (λ bs. Spelled (bs ++ l)) (sym (cond-false (ltb c 128) _ _ (le-ltb c 128 a) ∙ cond-true (ltb c 2048) _ _ (lt-ltb c 2048 b)))
        (spell_two (192 + c / 64) (128 + c % 64) l (omega arith) (omega (arith, b)) (omega arith) (omega arith) s)
    | inr b ↦ elim (cases_lt c 65536) [
      | inl d ↦
          subst (λ bs. Spelled (bs ++ l))
          (sym (cond-false (ltb c 128) _ _ (le-ltb c 128 a) ∙ cond-false (ltb c 2048) _ _ (le-ltb c 2048 b) ∙ cond-true (ltb c 65536) _ _ (lt-ltb c 65536 d)))
          (spell_three (224 + c / 4096) (128 + c / 64 % 64) (128 + c % 64) l (omega arith) (omega (arith, d)) (omega arith) (omega arith) (omega arith)
          (omega arith) s)
      | inr d ↦
          subst (λ bs. Spelled (bs ++ l))
          (sym (cond-false (ltb c 128) _ _ (le-ltb c 128 a) ∙ cond-false (ltb c 2048) _ _ (le-ltb c 2048 b) ∙ cond-false (ltb c 65536) _ _ (le-ltb c 65536 d)))
          (spell_four (240 + c / 262144) (128 + c / 4096 % 64) (128 + c / 64 % 64) (128 + c % 64) l (omega arith) (omega (arith, small)) (omega arith)
          (omega arith) (omega arith) (omega arith) (omega arith) (omega arith) s)
    ]
  ]
]

scalar_small : (c : ℕ) → IsScalar c → c < 2097152
scalar_small c h = ⊎_elim (λ low. omega (arith, low)) (λ high. omega (arith, high.1)) (scalar_cases c h)

all_spelled : (cs : List ℕ) → all_scalars cs ≡ true → Spelled (encode_utf8_all cs)
all_spelled [] h = record { whole = tt; starts = refl; bytes = tt }
all_spelled (c ∷ cs) h =
    let p = and_parts _ (all_scalars cs) h in
    spell_more c (encode_utf8_all cs) (scalar_small c p.0) (all_spelled cs p.1)

pub utf8_spelled : (text : List ℕ) → IsUtf8 text → Spelled text
utf8_spelled text u = subst Spelled u.1.1 (all_spelled u.0 u.1.0)
