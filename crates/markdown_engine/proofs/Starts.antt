-- Where lines are read from.
use Rattle.std.proofs.Common.{◌≡◌, ℕ, ◌<◌, ◌≤◌, ◌∙◌, Bool, true, false, not, if◌then◌else◌, cond, ◌==◌, nat_lt, nat_cmp, ◌||◌, ◌&&◌, [], ◌∷◌, refl, sym, ap}
use Rattle.std.proofs.Common.{subst, arith, Option, None, Some, ◌⊎◌, inl, inr}
use Rattle.markdown_engine.proofs.Prelude.{eq-eqb, eqb-true, is_before, lt-ltb, ltb-true, place_in, Point, Reaches, remaining, Skips, stays}
use Rattle.std.proofs.lemmas.Bool.{ne_eqb}
use Rattle.std.specs.Cmp.{unsigned_tied}
use Rattle.std.specs.BTreeMap.{is_at, insert_entry}
use Rattle.std.specs.Map.{lookup}
use Rattle.markdown_engine.specs.VirtualText.{start_of_line}
use Rattle.markdown_engine.proofs.Tests.{by_tests, or_right, and_both}

-- a place stands before another
abbrev pub Before : ℕ × ℕ → Point → Type 0
Before to p = (p.index < to.0) ⊎ ((p.index ≡ to.0) × (p.vs < to.1))

pub before : (to : ℕ × ℕ) (p : Point) → is_before to p ≡ true → Before to p
before to p e = elim (by_tests (nat_lt p.index to.0) (p.index == to.0) (nat_lt p.vs to.1) e) [
  | inl k ↦ inl (ltb-true p.index to.0 k)
  | inr k ↦ inr (eqb-true p.index to.0 k.0, ltb-true p.vs to.1 k.1)
]

pub is_before_as : (to : ℕ × ℕ) (p : Point) → Before to p → is_before to p ≡ true
is_before_as to p (inl k) = rw (lt-ltb p.index to.0 k) refl
is_before_as to p (inr k) = or_right (nat_lt p.index to.0) ((p.index == to.0) && nat_lt p.vs to.1)
    (and_both (p.index == to.0) (nat_lt p.vs to.1) (eq-eqb p.index to.0 k.0) (lt-ltb p.vs to.1 k.1))

before_before : (to : ℕ × ℕ) (p q : Point) → Before (q.index, q.vs) p → Before to q → Before to p
before_before to p q (inl h) (inl k) = inl (omega arith)
before_before to p q (inl h) (inr k) = let e = k.0 in inl (omega arith)
before_before to p q (inr h) (inl k) = let e = h.0 in inl (omega arith)
before_before to p q (inr h) (inr k) = let a = h.0 in let b = h.1 in let c = k.0 in let d = k.1 in inr (omega arith, omega arith)

-- either nothing is skipped, or reading goes on at a later place
abbrev pub Forward : Point → Point → Type 0
Forward p q = (q ≡ p) ⊎ ((p.vs ≡ 0) × Before (q.index, q.vs) p)

line_forward : (p : Point) (found : Option Point) → p.vs ≡ 0 → Forward p (start_of_line p found)
line_forward p None h = inl refl
line_forward p (Some q) h = pick (is_before (q.index, q.vs) p) refl
  where
    pick : (t : Bool) → is_before (q.index, q.vs) p ≡ t → Forward p (start_of_line p (Some q))
    pick true e = rw e (inr (h, before (q.index, q.vs) p e))
    pick false e = rw e (inl refl)

at_start : (t u : Bool) → not t || not u ≡ false → u ≡ true
at_start true true e = refl
at_start true false e = absurd (let f : true ≡ false = e in cc)
at_start false u e = absurd (let f : true ≡ false = e in cc)

pub place_forward : (skips : Skips) (p : Point) → Forward p (place_in skips p)
place_forward skips p = pick (not (p.column == 1) || not (p.vs == 0)) refl
  where
    pick : (t : Bool) → not (p.column == 1) || not (p.vs == 0) ≡ t → Forward p (place_in skips p)
    pick true e = rw e (inl refl)
    pick false e = rw e (line_forward p (lookup (is_at (nat_cmp p.index)) skips) (eqb-true p.vs 0 (at_start (p.column == 1) (p.vs == 0) e)))

forward_before : (to : ℕ × ℕ) (p q : Point) → Forward p q → is_before to q ≡ true → is_before to p ≡ true
forward_before to p q (inl h) e = subst (λ (z : Point). is_before to z ≡ true) h e
forward_before to p q (inr h) e = is_before_as to p (before_before to p q h.1 (before to q e))

-- a place from which reading goes on before the end of a range is before it
pub before_start : (skips : Skips) (to : ℕ × ℕ) (p : Point) → is_before to (place_in skips p) ≡ true → is_before to p ≡ true
before_start skips to p e = forward_before to p (place_in skips p) (place_forward skips p) e

later_less : (size : ℕ) (p q : Point) → p.vs ≡ 0 → Before (q.index, q.vs) p → remaining size q ≤ remaining size p
later_less size p q h (inl k) = omega arith
later_less size p q h (inr k) = let e = k.0 in let l = k.1 in omega arith

forward_less : (size : ℕ) (p q : Point) → Forward p q → remaining size q ≤ remaining size p
forward_less size p q (inl h) = subst (λ (z : Point). remaining size z ≤ remaining size p) (sym h) (omega arith)
forward_less size p q (inr h) = later_less size p q h.0 h.1

-- what is skipped leaves no more
pub start_less : (size : ℕ) (skips : Skips) (p : Point) → remaining size (place_in skips p) ≤ remaining size p
start_less size skips p = forward_less size p (place_in skips p) (place_forward skips p)

forward_reaches : (p q : Point) → Forward p q → Reaches p q
forward_reaches p q (inl h) = subst (λ (z : Point). Reaches p z) (sym h) (stays p)
forward_reaches p q (inr (h, inl k)) = record { index = omega arith; column = λ e. omega arith }
forward_reaches p q (inr (h, inr k)) = let i = k.0 in record { index = omega arith; column = λ e. omega arith }

-- what is skipped leads on
pub start_reaches : (skips : Skips) (p : Point) → Reaches p (place_in skips p)
start_reaches skips p = forward_reaches p (place_in skips p) (place_forward skips p)

other_place : (n k : ℕ) → n < k → is_at (nat_cmp n) k ≡ false
other_place n k h = unsigned_tied n k ∙ ne_eqb n k (λ e. omega arith)

module _ (i : ℕ) (q : Point) (n : ℕ) (low : n < i) where
  lookup_other : (es : Skips) → lookup (is_at (nat_cmp n)) (insert_entry nat_cmp es i q) ≡ lookup (is_at (nat_cmp n)) es
  lookup_other [] = rw (other_place n i low) refl
  lookup_other (e ∷ es) = pick (i == e.0) (nat_lt i e.0) refl refl (lookup_other es)
    where
      pick : (t u : Bool) → (i == e.0) ≡ t → nat_lt i e.0 ≡ u → lookup (is_at (nat_cmp n)) (insert_entry nat_cmp es i q) ≡ lookup (is_at (nat_cmp n)) es
          → lookup (is_at (nat_cmp n)) (insert_entry nat_cmp (e ∷ es) i q) ≡ lookup (is_at (nat_cmp n)) (e ∷ es)
      pick t true s r ih = let f = other_place n i low in rw r (rw f refl)
      pick true false s r ih =
          let same : i ≡ e.0 = eqb-true i e.0 s in
          let f = other_place n e.0 (omega arith) in
          rw (r, s) (rw f refl)
      pick false false s r ih = rw (r, s) (ap (λ (z : Option Point). cond (is_at (nat_cmp n) e.0) (Some e.1) z) ih)

-- a skip at a later line changes nothing before
pub skip_later : (skips : Skips) (i : ℕ) (q p : Point) → p.index < i → place_in (insert_entry nat_cmp skips i q) p ≡ place_in skips p
skip_later skips i q p low =
    ap (λ (z : Option Point). if not (p.column == 1) || not (p.vs == 0) then p else start_of_line p z) (lookup_other i q p.index low skips)
