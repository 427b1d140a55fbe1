-- A list of events that grows, with what is open in it.
use Rattle.std.specs.Prelude.{ℕ, zero, suc, ◌-◌, Bool, true, false, nat_lt, ◌&&◌, if◌then◌else◌, List, [], ◌∷◌, ◌++◌, length, take, slice_get, Option}
use Rattle.std.specs.Prelude.{None, Some}
use Rattle.std.specs.List.{prefix_len}
use Rattle.engine_events.specs.declared.event.Event.{Event}
use Rattle.engine_events.specs.declared.event.Kind.{Kind}
use Rattle.engine_events.specs.declared.event.Kind.TheVariants.{Enter, Exit}
use Rattle.engine_events.specs.declared.event.Name.{Name}
use Rattle.engine_events.specs.declared.event.Name.TheVariants as names
use Rattle.engine_events.specs.declared.place.Point.{Point}
use Rattle.engine_events.specs.Events.{event, link_of, point_of}
use Rattle.engine_events.specs.Names.{same_name}
use Rattle.state_parser.specs.declared.merged.Merged.{Merged}
use Rattle.state_parser.specs.declared.merged.Open.{Open}
use Rattle.state_parser.specs.Events.{end_of, is_ending, is_white_at, later, point_at}

-- the events, and what is open in them, the innermost last
pub record Merging : Type 0 where
  pub events : List Event
  pub opened : List Open

abbrev pub merged_seen : {A : Type 0} → Merged A → Merging
merged_seen m = record { events = m.events.items; opened = m.opened.items }

abbrev pub nothing : Merging
nothing = record { events = []; opened = [] }

-- ---- one event

-- an event at its place, or where the last one is
abbrev pub moved : Event → List Event → Event
moved e events = event e.kind e.name (later (end_of events) (point_of e)) (link_of e)

abbrev pub added : Event → Merging → Merging
added e m = record { events = m.events ++ moved e m.events ∷ []; opened = m.opened }

-- one begins, which ends with a line if it is a container
abbrev pub entered : Option ℕ → Event → Merging → Merging
entered last e m = added e (record { events = m.events; opened = m.opened ++ record { name = e.name; last = last } ∷ [] })

abbrev pub innermost : Merging → Option Open
innermost m = slice_get m.opened (length m.opened - 1)

abbrev pub left_by : Option Open → Point → Merging → Merging
left_by None p m = m
left_by (Some o) p m = added (event Exit o.name p None) (record { events = m.events; opened = take (length m.opened - 1) m.opened })

-- the innermost ends at a place
abbrev pub one_left : Point → Merging → Merging
one_left p m = left_by (innermost m) p m

abbrev pub has_name : Name → Option Open → Bool
has_name name None = false
has_name name (Some o) = same_name o.name name

abbrev pub is_innermost : Name → Merging → Bool
is_innermost name m = has_name name (innermost m)

-- the innermost ends, if it has the name of the event: one that ended with its container is over
abbrev pub exited : Event → Merging → Merging
exited e m = if is_innermost e.name m then one_left (point_of e) m else m

-- ---- the end of a line

-- so many end at a place, the innermost first
abbrev pub left : ℕ → Point → Merging → Merging
left zero p m = m
left (suc n) p m = left n p (one_left p m)

-- all that is open ends, down to so much
abbrev pub left_to : ℕ → Point → Merging → Merging
left_to kept p m = left (length m.opened - kept) p m

-- the index at which the white space at the end of the first so many events begins: pairs of enter and exit
abbrev pub white_from : List Event → ℕ → ℕ
white_from events zero = zero
white_from events (suc zero) = suc zero
white_from events (suc (suc n)) = if is_white_at events Enter n && is_white_at events Exit (suc n) then white_from events n else suc (suc n)

abbrev pub white_start : List Event → ℕ
white_start events = white_from events (length events)

abbrev pub with_white : Point → Point → Merging → Merging
with_white first last m = added (event Exit names.SpaceOrTab last None) (added (event Enter names.SpaceOrTab first None) m)

-- all that is open ends, down to so much, before the white space that begins at an index, which becomes one event
abbrev pub outside_left : ℕ → ℕ → Merging → Merging
outside_left start kept m =
    let first = point_at m.events start in
    with_white first (end_of m.events) (left_to kept first (record { events = take start m.events; opened = m.opened }))

-- or else at a place
abbrev pub before_left : ℕ → ℕ → Point → Merging → Merging
before_left start kept p m = if is_white_at m.events Enter start then outside_left start kept m else left_to kept p m

-- with a blank line that ends at a place, white space at the end of the events is outside
abbrev pub blank_left : ℕ → Point → Merging → Merging
blank_left kept p m = before_left (white_start m.events) kept p m

abbrev pub line_left : ℕ → Bool → Point → Merging → Merging
line_left kept blank p m = if blank then blank_left kept p m else left_to kept p m

-- something stays open after a line, unless it is a container that ends with it
abbrev pub stays_by : Option ℕ → ℕ → Bool
stays_by None line = true
stays_by (Some last) line = nat_lt line last

abbrev pub stays_after : ℕ → Open → Bool
stays_after line o = stays_by o.last line

-- at the ending of a line the first container that ends with it ends, with all in it
abbrev pub line_ended : Event → Merging → Merging
line_ended e m = line_left (prefix_len (stays_after (point_of e).line) m.opened) (same_name e.name names.BlankLineEnding) (point_of e) m

-- ---- steps

-- an event that is added, and the line with which it ends if it is a container
pub record Step : Type 0 where
  pub last : Option ℕ
  pub event : Event

abbrev pub step : Option ℕ → Event → Step
step last e = record { last = last; event = e }

abbrev pub pushed_by : Kind → Option ℕ → Event → Merging → Merging
pushed_by Exit last e m = exited e m
pushed_by Enter last e m = entered last e (if is_ending e then line_ended e m else m)

-- the list after a step
unfoldable pub pushed : Merging → Step → Merging
pushed m s = pushed_by s.event.kind s.last s.event m
