-- Events and links that the rows begin with.
use Rattle.std.specs.Prelude.{ℕ, Option, Some}
use Rattle.engine_events.specs.declared.event.Content.TheVariants as content
use Rattle.engine_events.specs.declared.event.Event.{Event}
use Rattle.engine_events.specs.declared.event.Kind.{Kind}
use Rattle.engine_events.specs.declared.event.Link.{Link}
use Rattle.engine_events.specs.declared.event.Name.{Name}
use Rattle.engine_events.specs.declared.place.Point.{Point}
use Rattle.engine_events.specs.Events.{event}

-- a place on the first line
abbrev pub place : ℕ → ℕ → ℕ → Point
place column index vs = record { line = 1; column = column; index = index; vs = vs }

-- an event at an index
abbrev pub at : Kind → Name → ℕ → Option Link → Event
at kind name index link = event kind name (place 1 index 0) link

-- a link between two neighbours
abbrev pub link : Option ℕ → Option ℕ → Link
link previous next = record { previous = previous; next = next; content = content.Text }

abbrev pub beside : Option ℕ → Option ℕ → Option Link
beside previous next = Some (link previous next)
