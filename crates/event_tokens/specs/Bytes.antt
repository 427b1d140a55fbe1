-- Events that hold no other have bytes that their names may have, and end at another place than they begin.
use Rattle.std.specs.Prelude.{◌≡◌, ℕ, Bool, true, not, ◌==◌, ◌&&◌, if◌then◌else◌, List, [], ◌∷◌}
use Rattle.engine_events.specs.declared.event.Event.{Event}
use Rattle.engine_events.specs.declared.event.Name.{Name}
use Rattle.event_grammar.specs.Trees.{is_pair}
use Rattle.event_grammar.specs.Points.{bytes_between, spot_of}
use Rattle.event_grammar.specs.Void.{is_void}
use Rattle.event_grammar.specs.declared.spot.Spot.{Spot}
use Rattle.event_tokens.specs.Tokens.{is_token}

-- one index, and as many columns of the tab there
abbrev pub same_spot : Spot → Spot → Bool
same_spot p q = (p.index == q.index) && (p.vs == q.vs)

-- an event of a name that holds no other may go from a spot to another: the name may have the bytes between them, and if the grammar has no row for the
-- name, the spots are two
abbrev pub is_fit_at : List ℕ → Name → Spot → Spot → Bool
is_fit_at text name from to = is_token name (bytes_between text from to) && not (is_void name && same_spot from to)

-- an event, with the events after it: so it is if the event holds no other
abbrev pub is_fit : List ℕ → Event → List Event → Bool
is_fit text event [] = true
is_fit text event (next ∷ others) = if is_pair event next then is_fit_at text event.name (spot_of event) (spot_of next) else true

abbrev pub are_fit : List ℕ → List Event → Bool
are_fit text [] = true
are_fit text (event ∷ others) = is_fit text event others && are_fit text others

-- Each event that holds no other has bytes of the text that its name may have. It has at least a byte, or a column of a tab, unless its name may hold others.
abbrev pub HaveTheirBytes : List ℕ → List Event → Type 0
HaveTheirBytes text events = are_fit text events ≡ true
