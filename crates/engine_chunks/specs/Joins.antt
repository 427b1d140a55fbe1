-- Chunks joined to chains.
use Rattle.std.specs.Prelude.{ℕ, zero, suc, ◌+◌, ◌==◌, Bool, false, if◌then◌else◌, List, [], ◌∷◌, Option, None, Some}
use Rattle.engine_events.specs.declared.event.Event.{Event}
use Rattle.engine_events.specs.declared.event.Link.{Link}
use Rattle.engine_events.specs.Events.{link_of, previous_of, with_link}

-- the events, one of them changed
abbrev pub update_at : (Event → Event) → ℕ → List Event → List Event
update_at f i [] = []
update_at f zero (e ∷ es) = f e ∷ es
update_at f (suc i) (e ∷ es) = e ∷ update_at f i es

abbrev pub next_in : ℕ → Event → Option Link → Event
next_in k e None = e
next_in k e (Some l) = let m : Link = record { previous = l.previous; next = Some k; content = l.content } in with_link (Some m) e

abbrev pub previous_in : ℕ → Event → Option Link → Event
previous_in k e None = e
previous_in k e (Some l) = let m : Link = record { previous = Some k; next = l.next; content = l.content } in with_link (Some m) e

-- a chunk with another one after it; an event that holds no link stays
abbrev pub with_next : ℕ → Event → Event
with_next k e = next_in k e (link_of e)

-- a chunk with another one before it
abbrev pub with_previous : ℕ → Event → Event
with_previous k e = previous_in k e (link_of e)

-- two chunks name one another
abbrev pub link_to : ℕ → ℕ → List Event → List Event
link_to previous next events = update_at (with_previous previous) next (update_at (with_next next) previous events)

abbrev pub is_that : ℕ → Option ℕ → Bool
is_that k None = false
is_that k (Some p) = k == p

-- whether an event names a chunk as the one before it
abbrev pub names_before : ℕ → Event → Bool
names_before k e = is_that k (previous_of (link_of e))

-- the last of these events, the first of which is at an index, that names a chunk as the one before it
abbrev pub last_after : ℕ → ℕ → List Event → Option ℕ → Option ℕ
last_after k at [] found = found
last_after k at (e ∷ es) found = last_after k (at + 1) es (if names_before k e then Some at else found)

-- a chunk with this one after it, if there is one
abbrev pub with_next_if : Option ℕ → Event → Event
with_next_if None e = e
with_next_if (Some next) e = with_next next e

-- these events, the first of which is at an index, each with the last of others that names it as the one before
abbrev pub link_from : List Event → ℕ → List Event → List Event
link_from others k [] = []
link_from others k (e ∷ es) = with_next_if (last_after k 0 others None) e ∷ link_from others (k + 1) es

-- each chunk that events name as the one before them names the last of these as the next
abbrev pub link_all : List Event → List Event
link_all events = link_from events 0 events
