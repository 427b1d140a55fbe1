-- Ends of drafts, and the places that they are in a text.
use Rattle.parse_output.proofs.Prelude.{columns_before, End, end_columns, end_place, fold, fold-append, Follows, if◌then◌else◌, index_spot, length-take-le}
use Rattle.parse_output.proofs.Prelude.{mark_size, next_spot, Place, place, point_at, spot, Spot, spot_at, take-add, ◌==◌}
use Rattle.std.specs.Prelude.{nat_lt}
use Rattle.std.proofs.Common.{◌≡◌, ◌≤◌, ◌+◌, ◌-◌, Bool, true, false, ℕ, List, [], ◌∷◌, refl, sym, ap, ap₂, subst, ◌∙◌, take, drop, length, arith}
use Rattle.engine_events.specs.Columns.{column_after}
use Rattle.parse_output.specs.Ends.{OwesIn, end_point}
use Rattle.engine_events.specs.declared.place.Point.{Point}
use Rattle.parse_output.specs.Spots.{start}

one_of : (t u v : Bool) (a b c d : Spot) (i : ℕ) → a.index ≡ i → b.index ≡ i → c.index ≡ i → d.index ≡ i
    → (if t then a else (if u then b else (if v then c else d))).index ≡ i
one_of true u v a b c d i at-a at-b at-c at-d = at-a
one_of false true v a b c d i at-a at-b at-c at-d = at-b
one_of false false true a b c d i at-a at-b at-c at-d = at-c
one_of false false false a b c d i at-a at-b at-c at-d = at-d

next_index : (mark : ℕ) (s : Spot) (b : ℕ) → (next_spot mark s b).index ≡ s.index + 1
next_index mark s b =
    one_of (nat_lt s.index mark) (b == 10) (b == 13)
    (spot s.line s.column (s.index + 1) false) (spot (if s.returned then s.line else s.line + 1) 1 (s.index + 1) false)
    (spot (s.line + 1) 1 (s.index + 1) true) (spot s.line (column_after b s.column) (s.index + 1) false)
    (s.index + 1) refl refl refl refl

passed_index : (mark : ℕ) (bs : List ℕ) (s : Spot) → (fold (next_spot mark) s bs).index ≡ s.index + length bs
passed_index mark [] s = omega arith
passed_index mark (b ∷ bs) s =
    passed_index mark bs (next_spot mark s b) ∙ omega (arith, next_index mark s b)

-- an end that follows one that follows another
pub follows_both : (text : List ℕ) (a b c : End) → Follows text a b → Follows text b c → Follows text a c
follows_both text a b c first second = record {
  forward = omega (arith, first.forward, second.forward);
  within = second.within;
  columns = λ same.
      let there : b.index ≡ a.index = omega (arith, first.forward, second.forward, same) in
      omega (arith, first.columns there, second.columns (same ∙ sym there));
  whole = second.whole;
}

module _ (text : List ℕ) where
  -- the spot at an index has this index
  pub spot_index : (i : ℕ) → i ≤ length text → (index_spot text i).index ≡ i
  spot_index i within =
      let size : length (take (i - 0) text) ≡ i - 0 = length-take-le (i - 0) text (omega (arith, within)) in
      passed_index (mark_size text) (take (i - 0) text) start ∙ omega (arith, size)

  -- from a spot on
  spot_on : (i j : ℕ) → i ≤ j → j ≤ length text → spot_at text j (index_spot text i) ≡ index_spot text j
  spot_on i j before within =
      let f = next_spot (mark_size text) in
      let here : (index_spot text i).index ≡ i - 0 = spot_index i (omega (arith, before, within)) ∙ omega arith in
      let all : (i - 0) + (j - (i - 0)) ≡ j - 0 = omega (arith, before) in
      ap (λ k. fold f (index_spot text i) (take (j - k) (drop k text))) here
      ∙ sym (fold-append f start (take (i - 0) text) (take (j - (i - 0)) (drop (i - 0) text)))
      ∙ ap (fold f start) (sym (take-add (i - 0) (j - (i - 0)) text) ∙ ap (λ k. take k text) all)

  -- a place at an end
  pub place_index : (from to : End) (p : Place) → p ≡ end_place text from → Follows text from to → p.spot.index ≡ from.index
  place_index from to p at follows = ap (λ q. q.spot.index) at ∙ spot_index from.index (omega (arith, follows.forward, follows.within))

  -- the spot of an end that follows
  pub spot_reached : (from to : End) (p : Place) (s : Spot) → p ≡ end_place text from → Follows text from to → s ≡ spot_at text to.index p.spot
      → s ≡ index_spot text to.index
  spot_reached from to p s at follows is = is ∙ ap (λ q. spot_at text to.index q.spot) at ∙ spot_on from.index to.index follows.forward follows.within

  pub place_reached : (from to : End) (s : Spot) (vs : ℕ) → Follows text from to → s ≡ index_spot text to.index
      → (OwesIn text s to.owed → vs ≡ columns_before s to.owed) → place s vs ≡ end_place text to
  place_reached from to s vs follows is columns =
      ap₂ place is (columns (subst (λ x. OwesIn text x to.owed) (sym is) follows.whole) ∙ ap (λ x. columns_before x to.owed) is)

  -- the point of a place at an end
  point : End → ℕ → Point
  point end index = record {
    line = (index_spot text end.index).line;
    column = (index_spot text end.index).column + end_columns text end;
    index = index;
    vs = end_columns text end;
  }

  pub point_reached : (end : End) (p : Place) → p ≡ end_place text end → end.index ≤ length text → point_at p ≡ end_point text end
  unfolding point
  point_reached end p at within = ap point_at at ∙ ap (point end) (spot_index end.index within)
