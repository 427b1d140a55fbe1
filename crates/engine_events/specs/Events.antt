-- Events by their kind, name, point and link.
use Rattle.std.specs.Prelude.{ℕ, Option, None, Some, is_some, unwrap_or}
use Rattle.engine_events.specs.declared.event.Kind.{Kind}
use Rattle.engine_events.specs.declared.event.Name.{Name}
use Rattle.engine_events.specs.declared.event.Content.{Content}
use Rattle.engine_events.specs.declared.event.Link.{Link}
use Rattle.engine_events.specs.declared.event.Event.{Event}
use Rattle.engine_events.specs.declared.place.Point.{Point}
use Rattle.engine_events.specs.Links.{present}

abbrev pub previous_of : Option Link → Option ℕ
previous_of None = None
previous_of (Some l) = l.previous

abbrev pub next_of : Option Link → Option ℕ
next_of None = None
next_of (Some l) = l.next

abbrev pub content_of : Option Link → Option Content
content_of None = None
content_of (Some l) = Some l.content

-- the event with this kind, name, point and link
abbrev pub event : Kind → Name → Point → Option Link → Event
event kind name point link = record {
  kind = kind;
  name = name;
  virtual_space = point.vs;
  content = content_of link;
  has_previous = is_some (previous_of link);
  has_next = is_some (next_of link);
  line = point.line;
  column = point.column;
  index = point.index;
  previous = unwrap_or (previous_of link) 0;
  next = unwrap_or (next_of link) 0;
}

-- where an event is
abbrev pub point_of : Event → Point
point_of e = record { line = e.line; column = e.column; index = e.index; vs = e.virtual_space }

abbrev pub link_with : Event → Option Content → Option Link
link_with e None = None
link_with e (Some content) = let l : Link = record { previous = present e.has_previous e.previous; next = present e.has_next e.next; content = content } in
    Some l

-- the neighbours of a chunk
abbrev pub link_of : Event → Option Link
link_of e = link_with e e.content

-- the event with other neighbours
abbrev pub with_link : Option Link → Event → Event
with_link link e = event e.kind e.name (point_of e) link
