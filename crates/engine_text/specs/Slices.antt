-- Parts of a text between two places.
use Rattle.std.specs.Prelude.{ℕ, ◌+◌, ◌-◌, Bool, false, ◌&&◌, ◌==◌, nat_lt, if◌then◌else◌, List, reverse, Option}
use Rattle.std.specs.List.{find}
use Rattle.engine_events.specs.declared.event.Event.{Event}
use Rattle.engine_events.specs.declared.event.Name.{Name}
use Rattle.engine_events.specs.declared.event.Kind.{Kind}
use Rattle.engine_events.specs.declared.event.Kind.TheVariants.{Enter, Exit}
use Rattle.engine_events.specs.declared.place.Point.{Point}
use Rattle.engine_events.specs.Names.{same_name}
use Rattle.engine_events.specs.Columns.{tab_size}

abbrev pub enters_if : Kind → Bool → Bool
enters_if Enter same = same
enters_if Exit same = false

-- whether an event enters something of a name
abbrev pub enters : Name → Event → Bool
enters name e = enters_if e.kind (same_name e.name name)

-- the last enter of a name
abbrev pub last_enter : Name → List Event → Option Event
last_enter name events = find (enters name) (reverse events)

-- the index after what begins before a place: a tab begins before its later columns
abbrev pub index_past : Point → ℕ
index_past p = if nat_lt 0 p.vs then p.index + 1 else p.index

-- the columns left of a tab that begins before a place
abbrev pub columns_left : Point → ℕ
columns_left p = if nat_lt 0 p.vs then tab_size p.column else 0

-- both places are in one tab, past its first column
abbrev pub in_one_tab : Point → Point → Bool
in_one_tab start end = nat_lt 0 start.vs && (start.index == end.index)

-- the columns of a tab that begins before the start
abbrev pub spaces_before : Point → Point → ℕ
spaces_before start end = if in_one_tab start end then end.vs - start.vs else columns_left start

-- the columns past the first of a tab that goes on after the end
abbrev pub spaces_after : Point → Point → ℕ
spaces_after start end = if in_one_tab start end then 0 else end.vs - 1
