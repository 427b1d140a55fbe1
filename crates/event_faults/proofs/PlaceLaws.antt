-- Places, one after another.
use Rattle.std.proofs.Common.{◌≡◌, subst, ◌<◌, ◌≤◌, ℕ, Bool, true, false, ◌==◌}
use Rattle.std.proofs.Common.{◌&&◌, ◌||◌, List, [], length, take, refl, sym, ap, ◌∙◌}
use Rattle.std.proofs.Common.{arith, zero-le, ◌↔◌, ◌⊎◌, inl, inr}
use Rattle.std.specs.Prelude.{nat_le, nat_lt}
use Rattle.std.proofs.lemmas.Bool.{leb-true, le-leb, ltb-true, eqb-true}
use Rattle.event_faults.proofs.Prelude.{is_spot, is_utf8-from_IsUtf8, IsUtf8, IsUtf8-from_is_utf8, IsValidUpTo}
use Rattle.event_faults.proofs.Prelude.{reaches, spot, Spot}
use Rattle.std.specs.Str.{is_utf8, IsCharBoundary}
use Rattle.std.proofs.lemmas.List.{length-take-le, take-take}
use Rattle.std.proofs.lemmas.Str.{IsUtf8-nil, IsUtf8-take, IsCharBoundary-from_take}
use Rattle.event_grammar.specs.Points.{is_column, IsFront}
use Rattle.event_grammar.proofs.Phases.{le_or_lt}

-- ---- characters

yes_no : {A : Type 0} → true ≡ false → A
yes_no h = absurd (let f : true ≡ false = h in cc)

yes : (t : Bool) (i size : ℕ) (u : Bool) → t ≡ true → nat_le i size ≡ true → u ≡ true → t ≡ (nat_le i size && u)
yes t i size u h k l = h ∙ sym (ap (λ (z : Bool). z && u) k ∙ l)

-- whether an index is between characters of the front is whether the bytes before it are characters
front_by : (bs front : List ℕ) (i : ℕ) (t a b : Bool) → IsFront bs front → t ≡ true ↔ IsCharBoundary front i → nat_le i (length bs) ≡ a → is_utf8 (take i bs) ≡ b
    → t ≡ (a && b)
front_by bs front i true true true f h k l = refl
front_by bs front i true false b f h k l = yes_no (sym (le-leb i (length bs) ((f i).0 (h.0 refl)).0) ∙ k)
front_by bs front i true true false f h k l = yes_no (sym ((f i).0 (h.0 refl)).1 ∙ l)
front_by bs front i false true true f h k l = yes_no (sym (h.1 ((f i).1 (leb-true i (length bs) k, l))))
front_by bs front i false true false f h k l = refl
front_by bs front i false false b f h k l = refl

pub between_is : (bs front : List ℕ) (i : ℕ) (t : Bool) → IsFront bs front → t ≡ true ↔ IsCharBoundary front i
    → t ≡ (nat_le i (length bs) && is_utf8 (take i bs))
between_is bs front i t f h = front_by bs front i t (nat_le i (length bs)) (is_utf8 (take i bs)) f h refl refl

pub between_within : (bs front : List ℕ) (i : ℕ) (t : Bool) → IsFront bs front → t ≡ true ↔ IsCharBoundary front i → t ≡ true → i ≤ length bs
between_within bs front i t f h e = ((f i).0 (h.0 e)).0

-- the whole of a text
pub front_whole : (bs front : List ℕ) → front ≡ bs → IsUtf8 bs → IsFront bs front
front_whole bs front e u =
    subst (IsFront bs) (sym e)
    (λ i. (
      λ (b : IsCharBoundary bs i). (b.0, is_utf8-from_IsUtf8 (take i bs) (IsUtf8-take bs i u b)),
      λ h. IsCharBoundary-from_take bs i u h.0 (IsUtf8-from_is_utf8 (take i bs) h.1),
    ))

-- the longest front that is UTF-8
pub front_part : (bs front : List ℕ) (n : ℕ) → front ≡ take n bs → IsValidUpTo bs n → IsFront bs front
front_part bs front n e v =
    let size : length (take n bs) ≡ n = length-take-le n bs (let s = v.short in omega arith) in
    subst (IsFront bs) (sym e)
    (λ i. (
      λ (b : IsCharBoundary (take n bs) i). (let l = b.0 in let s = v.short in
          (omega (arith, size), is_utf8-from_IsUtf8 (take i bs) (subst IsUtf8 (take-take i n bs (omega (arith, size))) (IsUtf8-take (take n bs) i v.front b)))),
      λ h. front_in bs n i v size h.1 (le_or_lt i n),
    ))
  where
    front_in : (bs : List ℕ) (n i : ℕ) → IsValidUpTo bs n → length (take n bs) ≡ n → is_utf8 (take i bs) ≡ true → (i ≤ n) ⊎ (n < i) → IsCharBoundary (take n bs) i
    front_in bs n i v size u (inl l) =
        IsCharBoundary-from_take (take n bs) i v.front (omega (arith, size)) (subst IsUtf8 (sym (take-take i n bs l)) (IsUtf8-from_is_utf8 (take i bs) u))
    front_in bs n i v size u (inr l) = absurd (v.longest i l (IsUtf8-from_is_utf8 (take i bs) u))

-- ---- places

reaches_by : (a b : ℕ) (t e v : Bool) → nat_lt a b ≡ t → (a == b) ≡ e → (t || (e && v)) ≡ true → a ≤ b
reaches_by a b true e v p q h = let l = ltb-true a b p in omega arith
reaches_by a b false true v p q h = let l = eqb-true a b q in omega arith
reaches_by a b false false v p q h = absurd (let f : false ≡ true = h in cc)

pub reaches_index : (p q : Spot) → reaches p q ≡ true → p.index ≤ q.index
reaches_index p q h = reaches_by p.index q.index (nat_lt p.index q.index) (p.index == q.index) (nat_le p.vs q.vs) refl refl h

-- whether a place that isn't before the last one is one of the text, by the characters before it and by its column
pub spot_is : (bs : List ℕ) (from to : Spot) (t v : Bool) → reaches from to ≡ true → t ≡ (nat_le to.index (length bs) && is_utf8 (take to.index bs))
    → is_column bs to ≡ v → (reaches from to && is_spot bs to) ≡ (t && v)
spot_is bs from to t v r k e =
    ap (λ (z : Bool). z && is_spot bs to) r
    ∙ and_assoc (nat_le to.index (length bs)) (is_utf8 (take to.index bs)) (is_column bs to)
    ∙ ap (λ (z : Bool). z && is_column bs to) (sym k)
    ∙ ap (λ (z : Bool). t && z) e
  where
    and_assoc : (a b c : Bool) → (a && b && c) ≡ ((a && b) && c)
    and_assoc true b c = refl
    and_assoc false b c = refl

-- ---- the start of a text

both_so : (a b : Bool) → a ≡ true → b ≡ true → (a && b && true) ≡ true
both_so true true h k = refl
both_so true false h k = k
both_so false b h k = h

-- it is a place
pub at_start_of : (bs : List ℕ) → is_spot bs (spot 0 0) ≡ true
at_start_of bs = both_so (nat_le 0 (length bs)) (is_utf8 []) (le-leb 0 (length bs) zero-le) (is_utf8-from_IsUtf8 [] IsUtf8-nil)
