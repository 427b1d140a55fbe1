-- Edits as one simultaneous replacement, counted in the old list.
use Rattle.std.specs.Prelude.{ℕ, ◌+◌, ◌-◌, ◌≤◌, zero, suc, List, [], ◌∷◌, ◌++◌, length, take, drop, map, replicate, slice_get, Option, None, Some}
use Rattle.engine_events.specs.declared.event.Event.{Event}
use Rattle.engine_events.specs.declared.event.Link.{Link}
use Rattle.engine_events.specs.Events.{link_of, with_link}
use Rattle.engine_edits.specs.Edits.{EditAt}

-- the ranges that go stand in order, one after another, within the list; `from` is where the first may begin
abbrev pub IsOrdered : ℕ → List EditAt → ℕ → Type 0
IsOrdered from [] len = from ≤ len
IsOrdered from (e ∷ es) len = (from ≤ e.at) × IsOrdered (e.at + e.remove) es len

-- what stands from `from` on, with the edits made
abbrev pub replacement : ℕ → List EditAt → List Event → List Event
replacement from [] events = drop from events
replacement from (e ∷ es) events = take (e.at - from) (drop from events) ++ (e.add ++ replacement (e.at + e.remove) es events)

-- for each event of the old list, where it stands in the new one; none if it went
abbrev pub Places : Type 0
Places = List (Option ℕ)

-- the places of so many events that stay, from a place on
abbrev pub rising : ℕ → ℕ → Places
rising first zero = []
rising first (suc n) = Some first ∷ rising (first + 1) n

-- the places of the events from `from` on, the first of which stands at `to`
abbrev pub places_from : ℕ → List EditAt → ℕ → ℕ → Places
places_from from [] to len = rising to (len - from)
places_from from (e ∷ es) to len =
    rising to (e.at - from) ++ (replicate e.remove None ++ places_from (e.at + e.remove) es (to + (e.at - from) + length e.add) len)

abbrev pub places : List EditAt → ℕ → Places
places es len = places_from 0 es 0 len

abbrev pub flatten : Option (Option ℕ) → Option ℕ
flatten None = None
flatten (Some place) = place

-- where an event that a link names stands now
abbrev pub place_after : Places → Option ℕ → Option ℕ
place_after ps None = None
place_after ps (Some place) = flatten (slice_get ps place)

abbrev pub link_after : Places → Link → Link
link_after ps l = record { previous = place_after ps l.previous; next = place_after ps l.next; content = l.content }

abbrev pub with_link_as : Places → Event → Option Link → Event
with_link_as ps e None = e
with_link_as ps e (Some l) = with_link (Some (link_after ps l)) e

-- an event with its link to where the others stand now
abbrev pub with_new_links : Places → Event → Event
with_new_links ps e = with_link_as ps e (link_of e)

-- the events after the edits: those that stay are linked to where the others stand now, those that come are as they are
abbrev pub events_after : List EditAt → List Event → List Event
events_after es events = replacement 0 es (map (with_new_links (places es (length events))) events)

-- how many events come
abbrev pub arrivals : List EditAt → ℕ
arrivals [] = 0
arrivals (e ∷ es) = length e.add + arrivals es
