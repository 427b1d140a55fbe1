-- What a walk over edits has found.
use Rattle.std.specs.Prelude.{◌≡◌, ◌≤◌, ◌+◌, ℕ, List, ◌++◌, length}
use Rattle.engine_events.specs.declared.event.Event.{Event}
use Rattle.engine_edits.specs.Edits.{EditAt}
use Rattle.engine_edits.specs.Replacement.{IsOrdered, Places, places, places_from, replacement, arrivals}

-- the places found and those of the rest are all
pub record Placing (from to count : ℕ) (found : Places) (rest all : List EditAt) : Type 0 where
  pub ordered : IsOrdered from rest count
  pub room : to + arrivals rest ≤ from + arrivals all
  pub whole : found ++ places_from from rest to count ≡ places all count

-- the events made so far and the rest are all; `old` are the events with their links moved
pub record Replacing (from : ℕ) (made : List Event) (rest all : List EditAt) (old : List Event) : Type 0 where
  pub ordered : IsOrdered from rest (length old)
  pub whole : made ++ replacement from rest old ≡ replacement 0 all old
