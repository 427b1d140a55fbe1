-- Where links and images lead, and the labels of calls, by the events after their enter.
use Rattle.std.specs.Prelude.{ℕ, ◌+◌, ◌-◌, Bool, true, false, ◌==◌, ◌&&◌, if◌then◌else◌, List, [], ◌∷◌, Option, None, Some}
use Rattle.std.specs.Option.{option_or}
use Rattle.engine_events.specs.Names.{same_name, is_listed}
use Rattle.engine_events.specs.declared.event.Event.{Event}
use Rattle.engine_events.specs.declared.event.Kind.{Kind}
use Rattle.engine_events.specs.declared.event.Kind.TheVariants.{Enter, Exit}
use Rattle.engine_events.specs.declared.event.Name.{Name}
use Rattle.engine_events.specs.declared.event.Name.TheVariants as n
use Rattle.definition_inline.specs.CharacterReference.{Names}
use Rattle.definition_inline.specs.Inline.{Target, Resource, Reference}
use Rattle.event_grammar.specs.References.{media_names}
use Rattle.event_meaning.specs.Strings.{written}
use Rattle.event_meaning.specs.Texts.{label_or_none}
use Rattle.event_references.specs.Texts.{text_of}
use Rattle.compile_written.specs.Strings.{parts_after}

-- what an event does to the search for one in a link, an image or a call: so many of these are to be exited before it goes on
abbrev pub own_next : Kind → Bool → Bool → ℕ → List Event → (ℕ → List Event) → List Event
own_next Enter is_media is_named count here others =
    if is_media then others (count + 1) else (if is_named && (count == 0) then here else others count)
own_next Exit is_media is_named count here others = if is_media then (if count == 0 then [] else others (count - 1)) else others count

-- the events from the first of a name on that is in no link, image or call among these, up to the exit of the one that they are in
abbrev pub own_from : Name → ℕ → List Event → List Event
own_from name count [] = []
own_from name count (e ∷ es) =
    own_next e.kind (is_listed media_names e.name) (same_name e.name name) count (e ∷ es) (λ c. own_from name c es)

abbrev pub has_own : List Event → Bool
has_own [] = false
has_own (e ∷ es) = true

-- the string of an event, by the events from its enter on, or none
abbrev pub string_first : Names → List ℕ → List Event → List ℕ
string_first names bytes [] = []
string_first names bytes (e ∷ es) = parts_after names bytes 0 es

module _ (bytes : List ℕ) where
  abbrev pub label_first : List Event → Option (List ℕ)
  label_first [] = None
  label_first (e ∷ es) = Some (text_of bytes e es)

  abbrev pub label_after : List Event → Option (List ℕ)
  label_after events =
      if has_own (own_from n.Resource 0 events) then None
      else option_or (label_first (own_from n.ReferenceString 0 events)) (label_first (own_from n.LabelText 0 events))

module _ (names : Names) (bytes : List ℕ) where
  -- the label by the events after the enter of a link, an image or a call
  abbrev pub label_by : List Event → List ℕ
  label_by events = label_or_none names bytes (label_after bytes events)

  -- where a link or an image leads, by the events after its enter
  abbrev pub target_by : List Event → Target
  target_by events =
      if has_own (own_from n.Resource 0 events)
      then Resource (written (string_first names bytes (own_from n.ResourceDestinationString 0 events)))
      (Some (written (string_first names bytes (own_from n.ResourceTitleString 0 events))))
      else Reference (label_by events)
