-- What comes before a line of a block, by the events.
use Rattle.std.specs.Prelude.{◌-◌, Bool, false, ◌||◌, if◌then◌else◌, List, length, slice_get, Option, None, Some}
use Rattle.engine_events.specs.declared.event.Event.{Event}
use Rattle.engine_events.specs.declared.event.Name.TheVariants as names
use Rattle.engine_events.specs.Names.{same_name}

abbrev pub is_white_space : Option Event → Bool
is_white_space None = false
is_white_space (Some e) = same_name e.name names.SpaceOrTab

abbrev pub is_of_table : Option Event → Bool
is_of_table None = false
is_of_table (Some e) = same_name e.name names.GfmTableHead || same_name e.name names.GfmTableRow

abbrev pub is_of_content : Option Event → Bool
is_of_content None = false
is_of_content (Some e) = same_name e.name names.Content

-- the last event before the line ending that this line follows; white space may have been read of this line
abbrev pub line_before : List Event → Option Event
line_before es = slice_get es (length es - (if is_white_space (slice_get es (length es - 1)) then 5 else 3))

-- the line before is one of a table
abbrev pub is_after_rows : List Event → Bool
is_after_rows es = is_of_table (line_before es)

-- the line before is one of a paragraph
abbrev pub is_after_content : List Event → Bool
is_after_content es = is_of_content (line_before es)
