-- Events without their places: something begins or ends, or holds no other and ends at a place.
use Rattle.std.specs.Prelude.{◌≡◌, ◌⊎◌, ℕ, ◌≤◌, ◌<◌, List, [], ◌∷◌, ◌++◌, None, length, slice_index}
use Rattle.engine_events.specs.Columns.{tab_size}
use Rattle.engine_events.specs.declared.event.Kind.TheVariants as kind
use Rattle.engine_events.specs.declared.event.Name.{Name}
use Rattle.engine_events.specs.declared.event.Event.{Event}
use Rattle.engine_events.specs.declared.place.Point.{Point}
use Rattle.engine_events.specs.Events.{event}
use Rattle.parse_output.specs.declared.spot.Place.{Place}
use Rattle.parse_output.specs.declared.spot.Spot.{Spot}
use Rattle.parse_output.specs.Spots.{IsIn, spot_at, point_in}

pub data Token : Type 0 where
  Enter : Name → Token
  Exit : Name → Token
  Void : Name → ℕ → ℕ → Token

abbrev pub place : Spot → ℕ → Place
place spot vs = record { spot = spot; vs = vs }

abbrev pub point_at : Place → Point
point_at p = point_in p.spot p.vs

-- where a token ends that begins at a place
abbrev pub token_end : List ℕ → Place → Token → Place
token_end text p (Enter name) = p
token_end text p (Exit name) = p
token_end text p (Void name index vs) = place (spot_at text index p.spot) vs

-- its events: what holds no other begins where it is and ends at its end, all else has one place
abbrev pub token_events : List ℕ → Place → Token → List Event
token_events text p (Enter name) = event kind.Enter name (point_at p) None ∷ []
token_events text p (Exit name) = event kind.Exit name (point_at p) None ∷ []
token_events text p (Void name index vs) =
    event kind.Enter name (point_at p) None ∷ event kind.Exit name (point_at (place (spot_at text index p.spot) vs)) None ∷ []

-- tokens, and where they end
abbrev pub tokens_end : List ℕ → Place → List Token → Place
tokens_end text p [] = p
tokens_end text p (t ∷ ts) = tokens_end text (token_end text p t) ts

abbrev pub tokens_events : List ℕ → Place → List Token → List Event
tokens_events text p [] = []
tokens_events text p (t ∷ ts) = token_events text p t ++ tokens_events text (token_end text p t) ts

-- a place that is no less far on, by its index and the columns of the tab there
pub record IsOnward (text : List ℕ) (p : Place) (index vs : ℕ) : Type 0 where
  pub forward : p.spot.index ≤ index
  pub within : index ≤ length text
  pub columns : index ≡ p.spot.index → p.vs ≤ vs

-- some columns of a tab are before a place only if a tab is there, and not all of them
pub record IsAtTab (text : List ℕ) (p : Place) : Type 0 where
  pub within : p.spot.index < length text
  pub tab : slice_index text p.spot.index ≡ 9
  pub before : p.vs < tab_size p.spot.column

abbrev pub IsWhole : List ℕ → Place → Type 0
IsWhole text p = (p.vs ≡ 0) ⊎ IsAtTab text p

-- no token goes back, and each ends between bytes or in a tab
abbrev pub AreOnward : List ℕ → Place → List Token → Type 0
AreOnward text p [] = Unit {0}
AreOnward text p (Enter name ∷ ts) = AreOnward text p ts
AreOnward text p (Exit name ∷ ts) = AreOnward text p ts
AreOnward text p (Void name index vs ∷ ts) =
    IsOnward text p index vs × IsWhole text (place (spot_at text index p.spot) vs) × AreOnward text (place (spot_at text index p.spot) vs) ts

-- a place that is reached from another
pub record GoesOn (text : List ℕ) (p q : Place) : Type 0 where
  pub spot : q.spot ≡ spot_at text q.spot.index p.spot
  pub onward : IsOnward text p q.spot.index q.vs
  pub whole : IsWhole text q

-- a place in a text
pub record IsPlace (text : List ℕ) (p : Place) : Type 0 where
  pub spot : IsIn text p.spot
  pub whole : IsWhole text p
