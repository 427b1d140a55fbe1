-- The children of an event, and its bytes, by the events after its enter.
use Rattle.std.specs.Prelude.{ℕ, Bool, true, false, ◌+◌, ◌-◌, ◌==◌, ◌&&◌, if◌then◌else◌, List, [], ◌∷◌}
use Rattle.engine_events.specs.Names.{same_name}
use Rattle.engine_events.specs.declared.event.Event.{Event}
use Rattle.engine_events.specs.declared.event.Kind.{Kind}
use Rattle.engine_events.specs.declared.event.Kind.TheVariants.{Enter, Exit}
use Rattle.engine_events.specs.declared.event.Name.{Name}
use Rattle.event_grammar.specs.declared.spot.Spot.{Spot}
use Rattle.event_grammar.specs.Points.{bytes_between, spot_of}

-- ---- children

abbrev pub from_next : Kind → Name → Name → ℕ → List Event → (ℕ → List Event) → List Event
from_next Enter own name depth here others = if (depth == 0) && same_name own name then here else others (depth + 1)
from_next Exit own name depth here others = if depth == 0 then [] else others (depth - 1)

-- the events from the first child of a name on; none where there is no such child
abbrev pub from_child : Name → ℕ → List Event → List Event
from_child name depth [] = []
from_child name depth (e ∷ es) = from_next e.kind e.name name depth (e ∷ es) (λ d. from_child name d es)

-- whether an event of a name is among events, at any depth
abbrev pub has_name : Name → List Event → Bool
has_name name [] = false
has_name name (e ∷ es) = if same_name e.name name then true else has_name name es

-- ---- bytes

abbrev pub to_next : Kind → ℕ → List ℕ → (ℕ → List ℕ) → List ℕ
to_next Enter depth here others = others (depth + 1)
to_next Exit depth here others = if depth == 0 then here else others (depth - 1)

module _ (bytes : List ℕ) where
  -- the bytes from a spot to the exit of the event that these are in
  abbrev pub text_to : Spot → ℕ → List Event → List ℕ
  text_to from depth [] = []
  text_to from depth (e ∷ es) = to_next e.kind depth (bytes_between bytes from (spot_of e)) (λ d. text_to from d es)

  -- the bytes of the event that these begin with
  abbrev pub text_first : List Event → List ℕ
  text_first [] = []
  text_first (e ∷ es) = text_to (spot_of e) 0 es
