-- The chunks of a chain, and which child events belong to each.
use Rattle.std.specs.Prelude.{ℕ, ◌+◌, ◌==◌, ◌&&◌, ◌||◌, zero, suc, Bool, nat_lt, if◌then◌else◌, List, [], ◌∷◌, length, slice_get, Option, None, Some}
use Rattle.std.specs.List.{position_or_len}
use Rattle.engine_events.specs.declared.event.Event.{Event}
use Rattle.engine_events.specs.declared.place.Point.{Point}
use Rattle.engine_events.specs.Events.{link_of, next_of, point_of}

-- the chunk that an event's link names next
abbrev pub next_chunk : Option Event → Option ℕ
next_chunk None = None
next_chunk (Some e) = next_of (link_of e)

-- the chunks from one on, so many at most
abbrev pub chunks_from : ℕ → List Event → Option ℕ → List ℕ
chunks_from zero events chunk = []
chunks_from (suc n) events None = []
chunks_from (suc n) events (Some k) = k ∷ chunks_from n events (next_chunk (slice_get events k))

-- the chunks of a chain from one on; a chain that runs forward has no more chunks than there are events
abbrev pub chunks : List Event → ℕ → List ℕ
chunks events k = chunks_from (length events) events (Some k)

-- a place is past another
abbrev pub is_past : Point → Point → Bool
is_past end p = nat_lt end.index p.index || ((p.index == end.index) && nat_lt end.vs p.vs)

abbrev pub is_beyond : Point → Event → Bool
is_beyond end e = is_past end (point_of e)

abbrev pub size_to : Option Event → List Event → ℕ
size_to None children = 0
size_to (Some exit) children = position_or_len (is_beyond (point_of exit)) children

-- how many of these child events belong to a chunk: those up to and at its end
abbrev pub part_size : List Event → ℕ → List Event → ℕ
part_size events k children = if nat_lt k (length events) then size_to (slice_get events (k + 1)) children else 0
