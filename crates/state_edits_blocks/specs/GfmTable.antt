-- Tables: a head, and the rows of the body right after it (GFM 4.10).
--
--     gfm_table ::= head [ eol body ]
--     body ::= row *( eol row )
--
-- States read the head and each row of the body apart. They are of one table while one line ending is between them, and the prefixes of containers on the next
-- line.
use Rattle.std.specs.Prelude.{ℕ, zero, suc, Bool, true, false, ◌&&◌, ◌||◌, if◌then◌else◌, List, [], ◌∷◌, length, slice_get, Option, None, Some}
use Rattle.engine_events.specs.declared.event.Event.{Event}
use Rattle.engine_events.specs.declared.event.Kind.TheVariants.{Enter, Exit}
use Rattle.engine_events.specs.declared.event.Name.TheVariants as names
use Rattle.engine_events.specs.Names.{same_name}
use Rattle.engine_edits.specs.Edits.{EditAt, with_edit}
use Rattle.state_edits_data.specs.Each.{enter_event, exit_event, is_event, later, place_at}
use Rattle.state_edits_blocks.specs.GfmTableRow.{row_edits}
use Rattle.state_edits_blocks.specs.declared.gfm_table.Table.{Table}

-- ---- what is known of a table

-- no body is open, and nothing ended
abbrev pub no_table : Table
no_table = record { in_body = false; end = None; on_next_line = false }

-- a row of its body begins
abbrev pub in_body : Table
in_body = record { in_body = true; end = None; on_next_line = false }

-- its head, or last row, ends at an index
abbrev pub with_end : Table → ℕ → Table
with_end t i = record { in_body = t.in_body; end = Some i; on_next_line = false }

-- after the ending of its last line
abbrev pub with_ending : Table → Table
with_ending t = record t { on_next_line = true }

-- of the prefix of a line
abbrev pub is_prefix : Event → Bool
is_prefix e = same_name e.name names.SpaceOrTab || (same_name e.name names.BlockQuotePrefix || same_name e.name names.BlockQuoteMarker)

-- a row may still follow after an event: a line ending, and the prefix of the next line
abbrev pub goes_on : Table → Event → Bool
goes_on t e = if t.on_next_line then is_prefix e || is_event Exit names.LineEnding e else is_event Enter names.LineEnding e

-- an event begins the next row
abbrev pub is_row_next : Table → Event → Bool
is_row_next t e = t.on_next_line && is_event Enter names.GfmTableRow e

-- after an event that may follow the end of a head or a row
abbrev pub after_waiting : Table → Event → Table
after_waiting t e = if goes_on t e then with_ending t else (if is_row_next t e then in_body else no_table)

-- after any other event that has an index
abbrev pub after_other : Table → Event → ℕ → Table
after_other t e i =
    if is_event Exit names.GfmTableHead e then with_end t i
    else (if t.in_body && is_event Exit names.GfmTableRow e then with_end t i else t)

abbrev pub after_by : Option ℕ → Table → Event → ℕ → Table
after_by (Some end) t e i = after_waiting t e
after_by None t e i = after_other t e i

-- after an event that has an index
abbrev pub after_event : Table → Event → ℕ → Table
after_event t e i = after_by t.end t e i

abbrev pub after_or : Table → ℕ → Option Event → Table
after_or t i None = t
after_or t i (Some e) = after_event t e i

module _ (events : List Event) where
  abbrev pub after_index : Table → ℕ → Table
  after_index t i = after_or t i (slice_get events i)

  -- ---- edits

  -- a table begins, if an event begins its head
  abbrev pub begun_edit : Event → ℕ → List EditAt → List EditAt
  begun_edit e i edits =
      if is_event Enter names.GfmTableHead e then with_edit false i 0 (enter_event names.GfmTable (place_at events i) ∷ []) edits else edits

  -- its body begins, unless it did
  abbrev pub body_edit : Table → ℕ → List EditAt → List EditAt
  body_edit t i edits = if t.in_body then edits else with_edit false i 0 (enter_event names.GfmTableBody (place_at events i) ∷ []) edits

  -- a table ends behind an index, and its body if it has one
  abbrev pub end_edit : Table → ℕ → List EditAt → List EditAt
  end_edit t end edits =
      if t.in_body
      then with_edit false (later 1 end) 0
      (exit_event names.GfmTableBody (place_at events end) ∷ exit_event names.GfmTable (place_at events end) ∷ []) edits
      else with_edit false (later 1 end) 0 (exit_event names.GfmTable (place_at events end) ∷ []) edits

  -- what an event adds that may follow the end of a head or a row
  abbrev pub waiting_edit : Table → ℕ → Event → ℕ → List EditAt → List EditAt
  waiting_edit t end e i edits =
      if goes_on t e then edits else (if is_row_next t e then body_edit t i edits else begun_edit e i (end_edit t end edits))

  abbrev pub edit_by : Option ℕ → Table → Event → ℕ → List EditAt → List EditAt
  edit_by (Some end) t e i edits = waiting_edit t end e i edits
  edit_by None t e i edits = begun_edit e i edits

  -- what an event adds to the edits
  abbrev pub event_edit : Table → Event → ℕ → List EditAt → List EditAt
  event_edit t e i edits = edit_by t.end t e i edits

  abbrev pub edit_or : Table → Option Event → ℕ → List EditAt → List EditAt
  edit_or t None i edits = edits
  edit_or t (Some e) i edits = event_edit t e i edits

  abbrev pub index_edit : Table → ℕ → List EditAt → List EditAt
  index_edit t i edits = edit_or t (slice_get events i) i edits

  abbrev pub last_by : Option ℕ → Table → List EditAt → List EditAt
  last_by (Some end) t edits = end_edit t end edits
  last_by None t edits = edits

  -- a table that ends with the events
  abbrev pub last_edit : Table → List EditAt → List EditAt
  last_edit t edits = last_by t.end t edits

  -- what is known of the table that is open before an index
  unfoldable pub table_before : ℕ → Table
  table_before zero = no_table
  table_before (suc i) = after_index (table_before i) i

  -- edits, and those that make tables of heads and rows, up to an index
  unfoldable pub wraps_before : List EditAt → ℕ → List EditAt
  wraps_before edits zero = edits
  wraps_before edits (suc i) = index_edit (table_before i) i (wraps_before edits i)

  abbrev pub wraps : List EditAt → List EditAt
  wraps edits = last_edit (table_before (length events)) (wraps_before edits (length events))

  -- the edits that make tables, with their cells
  abbrev pub table_edits : List EditAt
  table_edits = wraps (row_edits events [] (length events))
