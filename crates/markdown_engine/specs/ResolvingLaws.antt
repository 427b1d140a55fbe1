-- Machines that register no resolver and ask for no edit.
use Rattle.std.proofs.Common.{◌≡◌, ◌∙◌, ℕ, Bool, true, false, List, [], ◌∷◌, map, length, refl, sym, ap, subst, arith, cond, Option, Some, None}
use Rattle.engine_events.specs.declared.event.Event.{Event}
use Rattle.engine_events.specs.declared.event.Name.{Name as EventName}
use Rattle.engine_events.specs.declared.event.Link.{Link}
use Rattle.engine_events.specs.declared.place.Point.{Point}
use Rattle.engine_states.specs.declared.state.State.TheVariants as states
use Rattle.engine_events.specs.Events.{link_of, point_of}
use Rattle.engine_edits.specs.Edits.{EditAt}
use Rattle.engine_edits.specs.Replacement.{IsOrdered, Places, events_after, places, with_new_links, with_link_as}
use Rattle.markdown_engine.specs.declared.attempt.Attempt.{Attempt}
use Rattle.markdown_engine.specs.Laws.{FallsAt, HoldsAt, KeepsAt, LawfulAt, RanksAt}
use Rattle.markdown_engine.specs.Order.{AreWhole, InOrder, IsNested, MayStand, Reaches, open_after, opened_by, text_start}
use Rattle.markdown_engine.specs.Reading.{Config, Steps, restore, continuation}
use Rattle.markdown_engine.specs.Resolving.{IsUnresolved, Leaves, ResolvesAt, HoldsUnresolved, resolves_nothing, settles_whole}

module _ (ps : Places) where
  -- where links are moved, kinds, names and places stay
  abbrev NestsAlike : Event → Event → Type 0
  NestsAlike e f = (names : List EventName) → (MayStand e.kind e.name names → MayStand f.kind f.name names)
      × (opened_by f.kind f.name names ≡ opened_by e.kind e.name names)

  nests_alike : (e : Event) (l : Option Link) → NestsAlike e (with_link_as ps e l)
  nests_alike e None names = (λ h. h, refl)
  nests_alike e (Some l) names = (λ h. h, refl)

  same_point : (e : Event) (l : Option Link) → point_of (with_link_as ps e l) ≡ point_of e
  same_point e None = refl
  same_point e (Some l) = refl

  pub still_nested : (names : List EventName) (es : List Event) → IsNested names es → IsNested names (map (with_new_links ps) es)
  still_nested names [] h = h
  still_nested names (e ∷ es) h =
      let k = nests_alike e (link_of e) names in
      (k.0 h.0, subst (λ (z : List EventName). IsNested z (map (with_new_links ps) es)) (sym k.1) (still_nested (opened_by e.kind e.name names) es h.1))

  pub still_opened : (names : List EventName) (es : List Event) → open_after names (map (with_new_links ps) es) ≡ open_after names es
  still_opened names [] = refl
  still_opened names (e ∷ es) =
      ap (λ (z : List EventName). open_after z (map (with_new_links ps) es)) (nests_alike e (link_of e) names).1
      ∙ still_opened (opened_by e.kind e.name names) es

  still_in_order : (from to : Point) (es : List Event) → InOrder from es to → InOrder from (map (with_new_links ps) es) to
  still_in_order from to [] h = h
  still_in_order from to (e ∷ es) h =
      let k = same_point e (link_of e) in (
        subst (λ (z : Point). Reaches from z) (sym k) h.0,
        subst (λ (z : Point). InOrder z (map (with_new_links ps) es) to) (sym k) (still_in_order (point_of e) to es h.1),
      )

  pub still_whole : (es : List Event) (to : Point) → AreWhole es to → AreWhole (map (with_new_links ps) es) to
  still_whole es to h = ((still_nested [] es h.0.0, still_opened [] es ∙ h.0.1), still_in_order text_start to es h.1)

-- no edits are made
pub unedited : (edits : List EditAt) (es : List Event) (to : Point) → edits ≡ [] → AreWhole es to → AreWhole (events_after edits es) to
unedited edits es to e h = subst (λ (z : List EditAt). AreWhole (events_after z es) to) (sym e) (still_whole (places [] (length es)) es to h)

pub no_edits : (edits : List EditAt) (count : ℕ) → edits ≡ [] → IsOrdered 0 edits count
no_edits edits count e = subst (λ (z : List EditAt). IsOrdered 0 z count) (sym e) (omega arith)

module _ {M : Type 0} (size : ℕ) (valid : HoldsAt M) (step : Steps M) where
  back : (a : Attempt) (c : Config M) (v : Bool) → IsUnresolved c → IsUnresolved (continuation a c v)
  back a c true h = elim a.check as (λ b. IsUnresolved (cond b (restore a c) c)) [ true ↦ h | false ↦ h ]
  back a c false h = h

  keeps_unresolved : Leaves step → KeepsAt size valid step → KeepsAt size (HoldsUnresolved valid) step
  keeps_unresolved leaves keeps = record {
    fed = λ c stack n p v fed h. (keeps.fed c stack n p v fed h.0, h.1);
    moved = λ c stack s p on less order h. (keeps.moved c stack s p on less order h.0, h.1);
    called = λ c stack n h. (keeps.called c stack n h.0, ((leaves c n).0 ∙ h.1.0, (leaves c n).1 ∙ h.1.1));
    ok = λ c stack a h. (keeps.ok c stack a h.0, back a c true h.1);
    nok = λ c stack a h. (keeps.nok c stack a h.0, back a c false h.1);
    no_error = λ c stack m h. keeps.no_error c stack m h.0;
  }

  falls_unresolved : (rank : RanksAt M) → FallsAt size valid step rank → FallsAt size (HoldsUnresolved valid) step rank
  falls_unresolved rank falls = record {
    fed = λ c stack n p v h fed. falls.fed c stack n p v h.0 fed;
    called = λ c stack n h. falls.called c stack n h.0;
    ok = λ c stack a h. falls.ok c stack a h.0;
    nok = λ c stack a h. falls.nok c stack a h.0;
  }

  -- a lawful machine stays lawful
  pub lawful_unresolved : (rank : RanksAt M) → Leaves step → LawfulAt size valid step rank → LawfulAt size (HoldsUnresolved valid) step rank
  lawful_unresolved rank leaves lawful = record {
    adds = lawful.adds;
    consumes = λ c stack n h. lawful.consumes c stack n h.0;
    keeps = keeps_unresolved leaves lawful.keeps;
    falls = falls_unresolved rank lawful.falls;
    tidies = λ c stack s h. lawful.tidies c stack s h.0;
    closes = λ c well h. lawful.closes c well h.0;
  }

  pub resolves_unresolved : (rank : RanksAt M) → LawfulAt size valid step rank → ((c : Config M) → valid c [] states.Nok → ⊥)
      → ResolvesAt (HoldsUnresolved valid) resolves_nothing settles_whole
  resolves_unresolved rank lawful well = record {
    well = λ c h. well c h.0;
    begins = λ c h. let t = lawful.tidies c [] states.Ok h.0 in (h.1.0, ((t.nested, lawful.closes c true h.0), t.order));
    keeps = λ c n ns h. h;
    ordered = λ c h. no_edits c.map (length c.events) h.0;
    whole = λ c h. unedited c.map c.events c.point h.0 h.1;
  }
