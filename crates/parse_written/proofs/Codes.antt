-- Codes between two places of a content.
use Rattle.std.proofs.Common.{inl, inr, ◌≡◌, ℕ, zero, suc, ◌+◌, ◌-◌, List, [], ◌∷◌, ◌++◌, refl, sym, ap, ◌∙◌, length, take, drop, replicate, arith, subst}
use Rattle.parse_written.proofs.Prelude.{AreCodes, cases_Bool, codes_of, cond-false, cond-true, eqb-true, InlineCode, length-append, run_size}
use Rattle.parse_written.proofs.Prelude.{take-append_seam, text_before, ◌==◌}
use Rattle.std.proofs.lemmas.Bool.{eq-eqb}
use Rattle.std.proofs.lemmas.List.{replicate-append-replicate}

pub codes_both : (xs ys : List ℕ) (a b c : List InlineCode) → AreCodes xs a b → AreCodes ys b c → AreCodes (xs ++ ys) a c
codes_both [] ys a b c p q = subst (λ k. AreCodes ys k c) (sym p) q
codes_both (x ∷ xs) ys [] b c p q = absurd p
codes_both (x ∷ xs) ys (k ∷ ks) b c p q = (p.0, codes_both xs ys ks b c p.1 q)

pub codes_split : (xs ys : List ℕ) (a c : List InlineCode) → AreCodes (xs ++ ys) a c → (b : List InlineCode) × AreCodes xs a b × AreCodes ys b c
codes_split [] ys a c p = (a, refl, p)
codes_split (x ∷ xs) ys [] c p = absurd p
codes_split (x ∷ xs) ys (k ∷ ks) c p = let (b, q, r) = codes_split xs ys ks c p.1 in (b, (p.0, q), r)

-- what is dropped from a content
pub codes_dropped : (n : ℕ) (a : List InlineCode) → AreCodes (codes_of (take n a)) a (drop n a)
codes_dropped zero a = refl
codes_dropped (suc n) [] = refl
codes_dropped (suc n) (c ∷ cs) = (refl, codes_dropped n cs)

pub codes_are : (xs : List ℕ) (a b : List InlineCode) → AreCodes xs a b → codes_of a ≡ xs ++ codes_of b
codes_are [] a b p = ap codes_of p
codes_are (x ∷ xs) [] b p = absurd p
codes_are (x ∷ xs) (c ∷ cs) b p = ap (λ code. code ∷ codes_of cs) p.0 ∙ ap (λ codes. x ∷ codes) (codes_are xs cs b p.1)

-- the text before a place is that between the two
pub text_between : (xs : List ℕ) (a b : List InlineCode) → AreCodes xs a b → text_before (codes_of a) (codes_of b) ≡ xs
text_between xs a b p =
    let is = codes_are xs a b p in
    let size : length (codes_of a) - length (codes_of b) ≡ length xs = omega (arith, ap length is, length-append xs (codes_of b)) in
    ap (λ n. take n (codes_of a)) size ∙ ap (take (length xs)) is ∙ take-append_seam xs (codes_of b)

-- ---- runs of one byte

pub marks_split : (m a b total : ℕ) (from to : List InlineCode) → total ≡ a + b → AreCodes (replicate total m) from to
    → (mid : List InlineCode) × AreCodes (replicate a m) from mid × AreCodes (replicate b m) mid to
marks_split m a b total from to is p =
    let parts : replicate total m ≡ replicate a m ++ replicate b m = ap (λ n. replicate n m) is ∙ sym (replicate-append-replicate a b m) in
    codes_split (replicate a m) (replicate b m) from to (subst (λ codes. AreCodes codes from to) parts p)

-- a run of so many, where it is known how many come after the first
pub size_of_one : (m : ℕ) (c : InlineCode) (cs : List InlineCode) → c.code ≡ m → run_size m (c ∷ cs) ≡ suc (run_size m cs)
size_of_one m c cs is =
    let one : run_size m (c ∷ cs) ≡ 1 + run_size m cs = cond-true (c.code == m) (1 + run_size m cs) 0 (eq-eqb c.code m is) in omega arith

pub size_of_marks : (n m : ℕ) (a b : List InlineCode) → AreCodes (replicate n m) a b → run_size m b ≡ 0 → run_size m a ≡ n
size_of_marks zero m a b p stops = ap (run_size m) p ∙ stops
size_of_marks (suc n) m [] b p stops = absurd p
size_of_marks (suc n) m (c ∷ cs) b p stops = size_of_one m c cs p.0 ∙ ap suc (size_of_marks n m cs b p.1 stops)

-- a run as long as it goes, and what follows it
pub run_marks : (m : ℕ) (a : List InlineCode) → AreCodes (replicate (run_size m a) m) a (drop (run_size m a) a)
run_marks m [] = refl
run_marks m (c ∷ cs) = elim (cases_Bool (c.code == m)) [
  | inl same ↦
      let is = eqb-true c.code m same in
      subst (λ n. AreCodes (replicate n m) (c ∷ cs) (drop n (c ∷ cs))) (sym (size_of_one m c cs is)) (is, run_marks m cs)
  | inr other ↦
      subst (λ n. AreCodes (replicate n m) (c ∷ cs) (drop n (c ∷ cs))) (sym (cond-false (c.code == m) (1 + run_size m cs) 0 other)) refl
]

pub run_stops : (m : ℕ) (a : List InlineCode) → run_size m (drop (run_size m a) a) ≡ 0
run_stops m [] = refl
run_stops m (c ∷ cs) = elim (cases_Bool (c.code == m)) [
  | inl same ↦
      ap (λ n. run_size m (drop n (c ∷ cs))) (size_of_one m c cs (eqb-true c.code m same)) ∙ run_stops m cs
  | inr other ↦
      let none : run_size m (c ∷ cs) ≡ 0 = cond-false (c.code == m) (1 + run_size m cs) 0 other in
      ap (λ n. run_size m (drop n (c ∷ cs))) none ∙ none
]
