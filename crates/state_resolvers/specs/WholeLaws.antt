-- Events of which the test holds are whole.
use Rattle.std.proofs.Common.{◌≡◌, ◌∙◌, ℕ, ◌+◌, ◌-◌, ◌<◌, Bool, true, false, not, nat_le, ◌&&◌, ◌||◌, List, [], ◌∷◌, ◌++◌, length, take, slice_get, Some, refl}
use Rattle.std.proofs.Common.{sym, ap, arith}
use Rattle.std.proofs.lemmas.Bool.{and_parts, eq-eqb, leb-true}
use Rattle.std.proofs.lemmas.List.{length-append}
use Rattle.std.proofs.lemmas.Option.{slice_get-get_or}
use Rattle.std.proofs.Math.Seq.{get_or-append_seam, take-append_seam}
use denote.Enum.Bare.{same_true}
use Rattle.engine_events.specs.contracts.event.Name.{the_type}
use Rattle.engine_events.specs.declared.event.Event.{Event}
use Rattle.engine_events.specs.declared.event.Kind.{Kind}
use Rattle.engine_events.specs.declared.event.Kind.TheVariants.{Enter, Exit}
use Rattle.engine_events.specs.declared.event.Name.{Name}
use Rattle.engine_events.specs.declared.place.Point.{Point}
use Rattle.engine_events.specs.Events.{point_of}
use Rattle.engine_events.specs.Names.{same_name}
use Rattle.markdown_engine.specs.Order.{AreWhole, InOrder, IsNested, MayStand, Reaches, open_after, opened_by, text_start}
use Rattle.state_resolvers.specs.Whole.{are_none, innermost, is_in_order, is_it, is_nested, is_whole}
use Rattle.state_resolvers.specs.Whole.{may_stand, names_after, reaches, without_innermost}

-- the same names, the innermost last
abbrev flip : List Name → List Name
flip [] = []
flip (n ∷ ns) = flip ns ++ n ∷ []

last_place : (names : List Name) (n : Name) → length (names ++ n ∷ []) ≡ length names + 1
last_place names n = length-append names (n ∷ [])

innermost_last : (names : List Name) (n : Name) → innermost (names ++ n ∷ []) ≡ Some n
innermost_last names n =
    let size = last_place names n in
    let at : length (names ++ n ∷ []) - 1 ≡ length names = omega (arith, size) in
    let less : length names < length (names ++ n ∷ []) = omega (arith, size) in
    ap (slice_get (names ++ n ∷ [])) at ∙ (slice_get-get_or (names ++ n ∷ []) (length names) n less
    ∙ ap (λ (z : Name). Some z) (get_or-append_seam names n [] n))

front_of : (names : List Name) (n : Name) → without_innermost (names ++ n ∷ []) ≡ names
front_of names n =
    let size = last_place names n in
    let at : length (names ++ n ∷ []) - 1 ≡ length names = omega (arith, size) in
    ap (λ (z : ℕ). take z (names ++ n ∷ [])) at ∙ take-append_seam names (n ∷ [])

-- no name is left where none is open
some_left : (names : List Name) (n : Name) → are_none (names ++ n ∷ []) ≡ true → ⊥
some_left [] n h = let e : false ≡ true = h in cc
some_left (m ∷ names) n h = let e : false ≡ true = h in cc

none_left : (names : List Name) → are_none (flip names) ≡ true → names ≡ []
none_left [] h = refl
none_left (n ∷ ns) h = absurd (some_left (flip ns) n h)

-- events that are nested in open names, and leave none open
abbrev Closes : List Name → List Event → Type 0
Closes names es = IsNested names es × (open_after names es ≡ [])

by_kind : (k : Kind) (name : Name) (names : List Name) (es : List Event) → ((more : List Name) → is_nested (flip more) es ≡ true → Closes more es)
    → (may_stand k name (flip names) && is_nested (names_after k name (flip names)) es) ≡ true → MayStand k name names × Closes (opened_by k name names) es
by_kind Enter name names es on h = (tt, on (name ∷ names) h)
by_kind Exit name [] es on h = absurd (let e : false ≡ true = h in cc)
by_kind Exit name (n ∷ ns) es on h =
    let both = and_parts _ _ h in
    let is : same_name n name ≡ true = ap (is_it name) (sym (innermost_last (flip ns) n)) ∙ both.0 in
    let same : n ≡ name = same_true the_type tt n name is in
    let rest : is_nested (flip ns) es ≡ true = ap (λ (z : List Name). is_nested z es) (sym (front_of (flip ns) n)) ∙ both.1 in
    ((ns, ap (λ (z : Name). z ∷ ns) same), on ns rest)

nested_closes : (names : List Name) (es : List Event) → is_nested (flip names) es ≡ true → Closes names es
nested_closes names [] h = (tt, none_left names h)
nested_closes names (e ∷ es) h =
    let k = by_kind e.kind e.name names es (λ more. nested_closes more es) h in
    ((k.0, k.1.0), k.1.1)

-- ---- places

reaches_holds : (p q : Point) → reaches p q ≡ true → Reaches p q
reaches_holds p q h =
    let both = and_parts _ _ h in
    record {
      index = leb-true p.index q.index both.0;
      column = λ e. leb-true p.vs q.vs (ap (λ (b : Bool). not b || nat_le p.vs q.vs) (sym (eq-eqb p.index q.index e)) ∙ both.1);
    }

in_order : (from : Point) (es : List Event) (to : Point) → is_in_order from es to ≡ true → InOrder from es to
in_order from [] to h = reaches_holds from to h
in_order from (e ∷ es) to h =
    let both = and_parts _ _ h in
    (reaches_holds from (point_of e) both.0, in_order (point_of e) es to both.1)

pub whole : (es : List Event) (to : Point) → is_whole es to ≡ true → AreWhole es to
unfolding is_whole
whole es to h =
    let both = and_parts _ _ h in
    (nested_closes [] es both.0, in_order text_start es to both.1)
