-- Edits that can be made, and what comes of edits.
use Rattle.std.proofs.Common.{◌≡◌, ◌∙◌, ℕ, ◌+◌, Bool, true, false, ◌&&◌, if◌then◌else◌, List, [], ◌∷◌, length, refl, sym, ap}
use Rattle.std.proofs.lemmas.Bool.{and_parts, le-leb, leb-true}
use Rattle.engine_events.specs.declared.event.Event.{Event}
use Rattle.engine_events.specs.declared.place.Point.{Point}
use Rattle.engine_edits.specs.Edits.{EditAt}
use Rattle.engine_edits.specs.Replacement.{IsOrdered, events_after}
use Rattle.state_resolvers.specs.EditedEvents.{edited_events, is_ordered}
use Rattle.state_resolvers.specs.Whole.{is_whole}

pub ordered_true : (from : ℕ) (edits : List EditAt) (size : ℕ) → IsOrdered from edits size → is_ordered from edits size ≡ true
unfolding is_ordered
ordered_true from [] size h = le-leb from size h
ordered_true from (e ∷ es) size h =
    ap (λ (b : Bool). b && is_ordered (e.at + e.remove) es size) (le-leb from e.at h.0) ∙ ordered_true (e.at + e.remove) es size h.1

pub true_ordered : (from : ℕ) (edits : List EditAt) (size : ℕ) → is_ordered from edits size ≡ true → IsOrdered from edits size
unfolding is_ordered
true_ordered from [] size h = leb-true from size h
true_ordered from (e ∷ es) size h =
    let both = and_parts _ _ h in
    (leb-true from e.at both.0, true_ordered (e.at + e.remove) es size both.1)

told : (b t : Bool) (P : Type 0) → (b ≡ true → P) → (b ≡ false → P → ⊥) → (t ≡ true → P) → (P → t ≡ true) → b ≡ t
told true t P h k there back = sym (back (h refl))
told false true P h k there back = absurd (k refl (there refl))
told false false P h k there back = refl

-- a test that tells whether they can be made is this one
pub same_test : (b : Bool) (edits : List EditAt) (size : ℕ) → (b ≡ true → IsOrdered 0 edits size) → (b ≡ false → IsOrdered 0 edits size → ⊥)
    → b ≡ is_ordered 0 edits size
same_test b edits size h k = told b (is_ordered 0 edits size) (IsOrdered 0 edits size) h k (true_ordered 0 edits size) (ordered_true 0 edits size)

module _ (edits : List EditAt) (to : Point) (events : List Event) where
  pub unmade : is_ordered 0 edits (length events) ≡ false → edited_events edits to events ≡ events
  unfolding edited_events
  unmade h = ap (λ (b : Bool). if b && is_whole (events_after edits events) to then events_after edits events else events) h

  pub unwhole : is_ordered 0 edits (length events) ≡ true → is_whole (events_after edits events) to ≡ false → edited_events edits to events ≡ events
  unfolding edited_events
  unwhole h k = ap (λ (b : Bool). if b && is_whole (events_after edits events) to then events_after edits events else events) h
      ∙ ap (λ (b : Bool). if b then events_after edits events else events) k

  pub made : is_ordered 0 edits (length events) ≡ true → is_whole (events_after edits events) to ≡ true
      → edited_events edits to events ≡ events_after edits events
  unfolding edited_events
  made h k = ap (λ (b : Bool). if b && is_whole (events_after edits events) to then events_after edits events else events) h
      ∙ ap (λ (b : Bool). if b then events_after edits events else events) k
