-- Events whose chunks are joined to those after them stay whole: kinds, names and places are those of before.
use Rattle.std.proofs.Common.{◌≡◌, ◌∙◌, ℕ, ◌+◌, List, [], ◌∷◌, Option, None, Some, refl, sym, ap, subst}
use Rattle.engine_events.specs.declared.event.Event.{Event}
use Rattle.engine_events.specs.declared.event.Link.{Link}
use Rattle.engine_events.specs.declared.event.Name.{Name as EventName}
use Rattle.engine_events.specs.declared.place.Point.{Point}
use Rattle.engine_events.specs.Events.{link_of, point_of}
use Rattle.engine_chunks.specs.Joins.{last_after, link_all, link_from, next_in, with_next_if}
use Rattle.markdown_engine.specs.Order.{AreWhole, InOrder, IsNested, MayStand, Reaches, open_after, opened_by, text_start}

-- one event may stand where the other may, and opens what that opens
abbrev NestsAlike : Event → Event → Type 0
NestsAlike e f = (names : List EventName) → (MayStand e.kind e.name names → MayStand f.kind f.name names)
    × (opened_by f.kind f.name names ≡ opened_by e.kind e.name names)

nests_before : (k : ℕ) (e : Event) (l : Option Link) → NestsAlike e (next_in k e l)
nests_before k e None names = (λ h. h, refl)
nests_before k e (Some l) names = (λ h. h, refl)

nests_alike : (next : Option ℕ) (e : Event) → NestsAlike e (with_next_if next e)
nests_alike None e names = (λ h. h, refl)
nests_alike (Some k) e names = nests_before k e (link_of e) names

same_before : (k : ℕ) (e : Event) (l : Option Link) → point_of (next_in k e l) ≡ point_of e
same_before k e None = refl
same_before k e (Some l) = refl

same_point : (next : Option ℕ) (e : Event) → point_of (with_next_if next e) ≡ point_of e
same_point None e = refl
same_point (Some k) e = same_before k e (link_of e)

module _ (all : List Event) where
  still_nested : (names : List EventName) (k : ℕ) (es : List Event) → IsNested names es → IsNested names (link_from all k es)
  still_nested names k [] h = h
  still_nested names k (e ∷ es) h =
      let a = nests_alike (last_after k 0 all None) e names in (
        a.0 h.0,
        subst (λ (z : List EventName). IsNested z (link_from all (k + 1) es)) (sym a.1)
            (still_nested (opened_by e.kind e.name names) (k + 1) es h.1),
      )

  still_opened : (names : List EventName) (k : ℕ) (es : List Event) → open_after names (link_from all k es) ≡ open_after names es
  still_opened names k [] = refl
  still_opened names k (e ∷ es) =
      ap (λ (z : List EventName). open_after z (link_from all (k + 1) es)) (nests_alike (last_after k 0 all None) e names).1
      ∙ still_opened (opened_by e.kind e.name names) (k + 1) es

  still_in_order : (from to : Point) (k : ℕ) (es : List Event) → InOrder from es to → InOrder from (link_from all k es) to
  still_in_order from to k [] h = h
  still_in_order from to k (e ∷ es) h =
      let a = same_point (last_after k 0 all None) e in (
        subst (λ (z : Point). Reaches from z) (sym a) h.0,
        subst (λ (z : Point). InOrder z (link_from all (k + 1) es) to) (sym a) (still_in_order (point_of e) to (k + 1) es h.1),
      )

pub chained_whole : (es : List Event) (to : Point) → AreWhole es to → AreWhole (link_all es) to
chained_whole es to h =
    ((still_nested es [] 0 es h.0.0, still_opened es [] 0 es ∙ h.0.1), still_in_order es text_start to 0 es h.1)
