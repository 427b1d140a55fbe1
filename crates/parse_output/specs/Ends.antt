-- Ends of drafts, as places in a text.
use Rattle.std.specs.Prelude.{◌≡◌, ◌⊎◌, ℕ, ◌+◌, ◌-◌, ◌≤◌, ◌<◌, Bool, ◌==◌, ◌&&◌, if◌then◌else◌, List, None, length, slice_index}
use Rattle.engine_events.specs.Columns.{tab_size}
use Rattle.engine_events.specs.declared.event.Kind.TheVariants as kind
use Rattle.engine_events.specs.declared.event.Name.{Name}
use Rattle.engine_events.specs.declared.event.Event.{Event}
use Rattle.engine_events.specs.declared.place.Point.{Point}
use Rattle.engine_events.specs.Events.{event}
use Rattle.parse_output.specs.declared.end.End.{End}
use Rattle.parse_output.specs.declared.spot.Place.{Place}
use Rattle.parse_output.specs.declared.spot.Spot.{Spot}
use Rattle.parse_output.specs.Spots.{spot_at, start}
use Rattle.parse_output.specs.Tokens.{place}

abbrev pub end_at : ℕ → ℕ → End
end_at index owed = record { index = index; owed = owed }

-- before a text
abbrev pub first_end : End
first_end = end_at 0 0

abbrev pub same_end : End → End → Bool
same_end a b = (a.index == b.index) && (a.owed == b.owed)

-- how many columns of the tab at a spot are before a place where it owes so many
abbrev pub columns_before : Spot → ℕ → ℕ
columns_before s owed = if owed == 0 then 0 else tab_size s.column - owed

-- the spot at an index of a text
abbrev pub index_spot : List ℕ → ℕ → Spot
index_spot text index = spot_at text index start

-- how many columns of the tab at an end are before it
abbrev pub end_columns : List ℕ → End → ℕ
end_columns text end = columns_before (index_spot text end.index) end.owed

-- the place of an end in a text
abbrev pub end_place : List ℕ → End → Place
end_place text end = place (index_spot text end.index) (end_columns text end)

-- the point of an end in a text
abbrev pub end_point : List ℕ → End → Point
end_point text end = record {
  line = (index_spot text end.index).line;
  column = (index_spot text end.index).column + end_columns text end;
  index = end.index;
  vs = end_columns text end;
}

-- events at an end
abbrev pub enter_at : List ℕ → Name → End → Event
enter_at text name end = event kind.Enter name (end_point text end) None

abbrev pub exit_at : List ℕ → Name → End → Event
exit_at text name end = event kind.Exit name (end_point text end) None

-- a tab is at a spot, and owes fewer columns than it has
pub record IsInTab (text : List ℕ) (s : Spot) (owed : ℕ) : Type 0 where
  pub within : s.index < length text
  pub tab : slice_index text s.index ≡ 9
  pub fewer : owed < tab_size s.column

-- columns are owed only in a tab
abbrev pub OwesIn : List ℕ → Spot → ℕ → Type 0
OwesIn text s owed = (owed ≡ 0) ⊎ IsInTab text s owed

-- an end in a text that is no less far on than another, and owes columns only in a tab
pub record Follows (text : List ℕ) (from to : End) : Type 0 where
  pub forward : from.index ≤ to.index
  pub within : to.index ≤ length text
  pub columns : to.index ≡ from.index → end_columns text from ≤ end_columns text to
  pub whole : OwesIn text (index_spot text to.index) to.owed
