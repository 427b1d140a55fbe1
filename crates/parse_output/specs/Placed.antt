-- Events that have their places in a text.
use Rattle.std.specs.Prelude.{◌≡◌, ℕ, List, length}
use Rattle.engine_events.specs.declared.event.Event.{Event}
use Rattle.parse_output.specs.declared.spot.Place.{Place}
use Rattle.parse_output.specs.Spots.{start}
use Rattle.parse_output.specs.Tokens.{Token, AreOnward, place, tokens_end, tokens_events}

-- before a text
abbrev pub beginning : Place
beginning = place start 0

-- the events of tokens from a text's start to its end: each is where the one before it ends, and only a void event's exit is further on
pub record ArePlaced (text : List ℕ) (events : List Event) : Type 0 where
  pub tokens : List Token
  pub onward : AreOnward text beginning tokens
  pub each : events ≡ tokens_events text beginning tokens
  pub index : (tokens_end text beginning tokens).spot.index ≡ length text
  pub vs : (tokens_end text beginning tokens).vs ≡ 0

-- the events of tokens from a text's start to a place
pub record IsTold (text : List ℕ) (events : List Event) (p : Place) : Type 0 where
  pub tokens : List Token
  pub onward : AreOnward text beginning tokens
  pub each : events ≡ tokens_events text beginning tokens
  pub end : tokens_end text beginning tokens ≡ p
