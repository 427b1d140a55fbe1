-- Tests and places of events.
use Rattle.std.specs.Prelude.{ℕ, ◌-◌, Bool, false, nat_lt, ◌==◌, ◌&&◌, ◌||◌, if◌then◌else◌, List, length, slice_get, Option, None, Some}
use denote.Enum.Bare.{sameb}
use Rattle.engine_events.specs.contracts.event.Kind.{the_type}
use Rattle.engine_events.specs.declared.event.Event.{Event}
use Rattle.engine_events.specs.declared.event.Kind.{Kind}
use Rattle.engine_events.specs.declared.event.Name.{Name}
use Rattle.engine_events.specs.declared.event.Name.TheVariants as names
use Rattle.engine_events.specs.declared.place.Point.{Point}
use Rattle.engine_events.specs.Events.{point_of}
use Rattle.engine_events.specs.Names.{same_name}
use Rattle.markdown_engine.specs.Order.{text_start}

-- something of a name begins, or ends
abbrev pub is_bound : Kind → Name → Event → Bool
is_bound kind name e = sameb the_type e.kind kind && same_name e.name name

-- an event is of a line ending
abbrev pub is_ending : Event → Bool
is_ending e = same_name e.name names.LineEnding || same_name e.name names.BlankLineEnding

abbrev pub ending_of : Option Event → Bool
ending_of None = false
ending_of (Some e) = is_ending e

abbrev pub is_ending_at : List Event → ℕ → Bool
is_ending_at events i = ending_of (slice_get events i)

abbrev pub white_of : Kind → Option Event → Bool
white_of kind None = false
white_of kind (Some e) = is_bound kind names.SpaceOrTab e

-- white space begins, or ends, with the event at an index
abbrev pub is_white_at : List Event → Kind → ℕ → Bool
is_white_at events kind i = white_of kind (slice_get events i)

abbrev pub place_of : Option Event → Point
place_of None = text_start
place_of (Some e) = point_of e

-- where the event at an index is, or where a text starts
abbrev pub point_at : List Event → ℕ → Point
point_at events i = place_of (slice_get events i)

-- where the last event is, or where a text starts
abbrev pub end_of : List Event → Point
end_of events = point_at events (length events - 1)

abbrev pub is_before : Point → Point → Bool
is_before p q = nat_lt p.index q.index || ((p.index == q.index) && nat_lt p.vs q.vs)

-- the later of two places
abbrev pub later : Point → Point → Point
later p q = if is_before q p then p else q
