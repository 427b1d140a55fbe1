-- What is held of a link, an image or a call while events are read from the last to the first.
use Rattle.std.specs.Prelude.{◌≡◌, ◌<◌, ℕ, zero, suc, Bool, false, ◌||◌, if◌then◌else◌, List, [], ◌∷◌, drop, length, reverse, slice_index_or, Option, None, Some}
use Rattle.std.specs.Option.{option_or}
use Rattle.engine_events.specs.Names.{same_name}
use Rattle.engine_events.specs.declared.event.Event.{Event}
use Rattle.engine_events.specs.declared.event.Name.{Name}
use Rattle.engine_events.specs.declared.event.Name.TheVariants as n
use Rattle.compile_strings.specs.Targets.{own_from, has_own}
use Rattle.compile_strings.specs.declared.label_end.Held.{Held}
use Rattle.compile_strings.specs.declared.label_end.Open.{Open}

abbrev pub is_held : Name → Bool
is_held name =
    same_name name n.Resource || (same_name name n.ResourceDestinationString || (same_name name n.ResourceTitleString
    || (same_name name n.ReferenceString || same_name name n.LabelText)))

abbrev pub held : Bool → Option ℕ → Option ℕ → Option ℕ → Option ℕ → Held
held resource destination title reference text =
    record { resource = resource; destination = destination; title = title; reference = reference; text = text }

abbrev pub new_held : Held
new_held = held false None None None None

abbrev pub first_of : Bool → ℕ → Option ℕ → Option ℕ
first_of is_one index known = if is_one then Some index else known

-- with the event of this name and index before the others
abbrev pub held_with : Name → ℕ → Held → Held
held_with name index h =
    held (h.resource || same_name name n.Resource) (first_of (same_name name n.ResourceDestinationString) index h.destination)
    (first_of (same_name name n.ResourceTitleString) index h.title)
    (first_of (same_name name n.ReferenceString) index h.reference)
    (first_of (same_name name n.LabelText) index h.text)

abbrev pub label_place : Held → Option ℕ
label_place h = if h.resource then None else option_or h.reference h.text

-- ---- what it is by the events

-- these events begin at this index of the list, or there are none
abbrev pub IsFoundAt : List Event → Option ℕ → List Event → Type 0
IsFoundAt events None found = found ≡ []
IsFoundAt events (Some index) found = (index < length events) × (found ≡ drop index events)

-- what is found in the events from some place of the list on, after so many links, images and calls are exited
pub record IsHeld (events rest : List Event) (count : ℕ) (h : Held) : Type 0 where
  pub resource : has_own (own_from n.Resource count rest) ≡ h.resource
  pub destination : IsFoundAt events h.destination (own_from n.ResourceDestinationString count rest)
  pub title : IsFoundAt events h.title (own_from n.ResourceTitleString count rest)
  pub reference : IsFoundAt events h.reference (own_from n.ReferenceString count rest)
  pub text : IsFoundAt events h.text (own_from n.LabelText count rest)

-- that of the innermost one, or of one around it
abbrev pub held_at : Held → List Held → ℕ → Held
held_at inner outer zero = inner
held_at inner outer (suc c) = slice_index_or outer c new_held

abbrev pub first_held : List Held → Held
first_held [] = new_held
first_held (h ∷ hs) = h

-- what is held of the innermost one and of those around it
abbrev pub HoldsAt : List Event → List Event → Held → List Held → Type 0
HoldsAt events rest inner outer = (c : ℕ) → IsHeld events rest c (held_at inner outer c)

-- what is held of all that are open
pub record AreHeld {A : Type 0} (events rest : List Event) (held : Open A) : Type 0 where
  pub each : (c : ℕ) → IsHeld events rest c (held_at held.inner (reverse held.outer.items) c)
