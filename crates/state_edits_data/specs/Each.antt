-- Edits that are found at the events one by one.
use Rattle.std.specs.Prelude.{ℕ, ◌+◌, ◌-◌, ◌^◌, min, Bool, false, ◌==◌, ◌&&◌, if◌then◌else◌, List, [], ◌∷◌, length, take, drop, slice_get, Option, None, Some}
use Rattle.std.specs.List.{fold}
use denote.Enum.Bare.{sameb}
use Rattle.engine_events.specs.contracts.event.Kind.{the_type}
use Rattle.engine_events.specs.declared.event.Event.{Event}
use Rattle.engine_events.specs.declared.event.Kind.{Kind}
use Rattle.engine_events.specs.declared.event.Kind.TheVariants.{Enter, Exit}
use Rattle.engine_events.specs.declared.event.Name.{Name}
use Rattle.engine_events.specs.declared.place.Point.{Point}
use Rattle.engine_events.specs.Columns.{tab_size}
use Rattle.engine_events.specs.Events.{event, point_of}
use Rattle.engine_events.specs.Names.{same_name}
use Rattle.markdown_engine.specs.Order.{text_start}
use Rattle.definition_text.specs.Ascii.{tab}
use Rattle.definition_text.specs.Lines.{without_mark}

abbrev pub place_of : Option Event → Point
place_of None = text_start
place_of (Some e) = point_of e

-- where an event of the list is
abbrev pub place_at : List Event → ℕ → Point
place_at events i = place_of (slice_get events i)

abbrev pub enter_event : Name → Point → Event
enter_event name p = event Enter name p None

abbrev pub exit_event : Name → Point → Event
exit_event name p = event Exit name p None

-- an event enters, or exits, something of a name
abbrev pub is_event : Kind → Name → Event → Bool
is_event kind name e = sameb the_type e.kind kind && same_name e.name name

-- something of a name begins, or ends
abbrev pub is_bound : Kind → Name → Option Event → Bool
is_bound kind name None = false
is_bound kind name (Some e) = is_event kind name e

-- so many more, up to the most that a number of the program holds
abbrev pub later : ℕ → ℕ → ℕ
later n i = min (i + n) (2 ^ 64 - 1)

-- the column after a byte
abbrev pub column_over : ℕ → ℕ → ℕ
column_over column b = if b == tab then later (tab_size column) column else later 1 column

-- bytes at an index that have columns: not those of a byte order mark at the text's start
abbrev pub with_columns : ℕ → List ℕ → List ℕ
with_columns index part = if index == 0 then without_mark part else part

-- the place after some bytes of a line
abbrev pub place_past : Point → List ℕ → Point
place_past p part = if length part == 0 then p else record {
  line = p.line;
  column = fold column_over p.column (with_columns p.index part);
  index = later (length part) p.index;
  vs = 0;
}

-- something between two places
abbrev pub around : Name → Point → Point → List Event
around name from to = enter_event name from ∷ exit_event name to ∷ []

-- the same, if it is there
abbrev pub around_if : Bool → Name → Point → Point → List Event
around_if there name from to = if there then around name from to else []

-- the bytes of data that begins at an index
abbrev pub data_part : List ℕ → List Event → ℕ → List ℕ
data_part bytes events i = take ((place_at events (i + 1)).index - (place_at events i).index) (drop (place_at events i).index bytes)
