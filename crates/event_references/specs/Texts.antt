-- The text of an event, read event by event.
use Rattle.std.specs.Prelude.{ℕ, ◌+◌, ◌-◌, Bool, true, false, not, ◌==◌, ◌&&◌, if◌then◌else◌, List, [], ◌∷◌, ◌++◌}
use Rattle.engine_events.specs.Names.{same_name}
use Rattle.engine_events.specs.declared.event.Event.{Event}
use Rattle.engine_events.specs.declared.event.Kind.{Kind}
use Rattle.engine_events.specs.declared.event.Kind.TheVariants.{Enter, Exit}
use Rattle.engine_events.specs.declared.event.Name.{Name}
use Rattle.engine_events.specs.declared.event.Name.TheVariants as n
use Rattle.event_grammar.specs.declared.spot.Spot.{Spot}
use Rattle.event_grammar.specs.Points.{bytes_between, spot_of}

-- what the events after one come to: how many are open in a quote prefix, that with them, and how many are open around it
abbrev pub text_next : Kind → Name → ℕ → ℕ → (ℕ → ℕ → List ℕ) → List ℕ
text_next Enter name quoted depth others =
    if (quoted == 0) && not (same_name name n.BlockQuotePrefix) then others quoted (depth + 1) else others (quoted + 1) depth
text_next Exit name quoted depth others =
    if not (quoted == 0) then others (quoted - 1) depth else if depth == 0 then [] else others quoted (depth - 1)

abbrev pub is_enter : Kind → Bool
is_enter Enter = true
is_enter Exit = false

module _ (bytes : List ℕ) where
  -- the bytes between an event and the next, if they are in no quote prefix
  abbrev pub piece : ℕ → Spot → Spot → List ℕ
  piece quoted from to = if quoted == 0 then bytes_between bytes from to else []

  -- the text of an event from a spot on, by the events that follow in it, up to its exit
  abbrev pub text_after : ℕ → ℕ → Spot → List Event → List ℕ
  text_after quoted depth from [] = []
  text_after quoted depth from (e ∷ es) =
      piece quoted from (spot_of e) ++ text_next e.kind e.name quoted depth (λ q d. text_after q d (spot_of e) es)

  -- the text of an event, by those after it
  abbrev pub text_of : Event → List Event → List ℕ
  text_of e es = text_after 0 0 (spot_of e) es

  -- the texts of all events of a name
  abbrev pub texts_of : Name → List Event → List (List ℕ)
  texts_of name [] = []
  texts_of name (e ∷ es) =
      if is_enter e.kind && same_name e.name name then text_of e es ∷ texts_of name es else texts_of name es
