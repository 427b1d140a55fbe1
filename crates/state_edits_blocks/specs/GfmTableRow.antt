-- Cells of the rows of tables (GFM 4.10).
--
--     row ::= [ '|' ] cell *( '|' cell ) [ '|' ]
--     cell ::= *space_or_tab [ text *space_or_tab ]
--     delimiter_cell ::= *space_or_tab [ ':' ] 1*'-' [ ':' ] *space_or_tab
--
-- States read a row as white space, data and bars. What is between two bars is a cell, and so is what is before the first bar or behind the last one, if it is
-- more than white space.
use Rattle.std.specs.Prelude.{ℕ, zero, suc, ◌-◌, Bool, true, false, ◌&&◌, if◌then◌else◌, is_some, List, [], ◌∷◌, slice_get, Option, None, Some}
use denote.Enum.Bare.{sameb}
use Rattle.engine_events.specs.contracts.event.Kind.{the_type}
use Rattle.engine_events.specs.declared.event.Content.TheVariants as contents
use Rattle.engine_events.specs.declared.event.Event.{Event}
use Rattle.engine_events.specs.declared.event.Kind.{Kind}
use Rattle.engine_events.specs.declared.event.Kind.TheVariants.{Enter, Exit}
use Rattle.engine_events.specs.declared.event.Name.TheVariants as names
use Rattle.engine_events.specs.Events.{event}
use Rattle.engine_events.specs.Names.{same_name}
use Rattle.engine_edits.specs.Edits.{EditAt, with_edit}
use Rattle.state_table.specs.BlockWords.{chunk_of}
use Rattle.state_edits_data.specs.Each.{enter_event, exit_event, is_event, later, place_at}
use Rattle.state_edits_blocks.specs.declared.gfm_table_row.Row.{Row}
use Rattle.state_edits_blocks.specs.declared.gfm_table_row.RowKind.{RowKind}
use Rattle.state_edits_blocks.specs.declared.gfm_table_row.RowKind.TheVariants.{Text, Delimiters}

-- ---- what is known of a row

-- no row is open
abbrev pub outside : Row
outside = record { kind = None; is_begun = false; has_bar = false; from = 0; first = None; last = None }

-- a row of a kind, whose events begin at an index
abbrev pub row_begun : RowKind → ℕ → Row
row_begun kind from = record { kind = Some kind; is_begun = false; has_bar = false; from = from; first = None; last = None }

-- a row after a bar, whose next cell begins at an index
abbrev pub behind_bar : Row → ℕ → Row
behind_bar row from = record { kind = row.kind; is_begun = true; has_bar = true; from = from; first = None; last = None }

abbrev pub or_this : ℕ → Option ℕ → ℕ
or_this i None = i
or_this i (Some first) = first

-- with an event of its cell that is no white space
abbrev pub with_part : Row → ℕ → Row
with_part row i = record row { is_begun = true; first = Some (or_this i row.first); last = Some i }

-- the kind of row that an event is of
abbrev pub row_kind : Event → Option RowKind
row_kind e = if same_name e.name names.GfmTableRow then Some Text else (if same_name e.name names.GfmTableDelimiterRow then Some Delimiters else None)

abbrev pub bound_row : Kind → RowKind → ℕ → Row
bound_row Enter kind i = row_begun kind (later 1 i)
bound_row Exit kind i = outside

abbrev pub known_if : Row → Event → ℕ → Option RowKind → Row
known_if row e i (Some kind) = bound_row e.kind kind i
known_if row e i None =
    if same_name e.name names.SpaceOrTab then row
    else (if same_name e.name names.GfmTableCellDivider then behind_bar row (later 1 i) else with_part row i)

-- after an event that has an index
abbrev pub known_after : Row → Event → ℕ → Row
known_after row e i = known_if row e i (row_kind e)

abbrev pub known_or : Row → ℕ → Option Event → Row
known_or row i None = row
known_or row i (Some e) = known_after row e i

-- where a cell of text begins: white space behind a bar is part of it
abbrev pub cell_start : Row → ℕ → ℕ
cell_start row first = if row.has_bar then row.from else first

module _ (events : List Event) where
  abbrev pub known_at : Row → ℕ → Row
  known_at row i = known_or row i (slice_get events i)

  -- ---- cells

  -- a cell of text that ends before an index: its events become one chunk
  abbrev pub text_cell_edit : ℕ → ℕ → List EditAt → List EditAt
  text_cell_edit start end edits =
      let from = place_at events start in
      let to = place_at events (end - 1) in
      with_edit false start (end - start) (
      enter_event names.GfmTableCell from ∷ enter_event names.GfmTableCellText from ∷ event Enter names.Data from (Some (chunk_of contents.Text))
      ∷ exit_event names.Data to ∷ exit_event names.GfmTableCellText to ∷ exit_event names.GfmTableCell to ∷ [])
      edits

  -- a cell of text with nothing in it, before a bar
  abbrev pub empty_cell_edit : ℕ → List EditAt → List EditAt
  empty_cell_edit i edits =
      with_edit false i 0 (enter_event names.GfmTableCell (place_at events i) ∷ exit_event names.GfmTableCell (place_at events i) ∷ []) edits

  -- a cell of delimiters, from its first event to its last one
  abbrev pub delimiter_cell_edit : ℕ → ℕ → List EditAt → List EditAt
  delimiter_cell_edit first last edits =
      with_edit false (later 1 last) 0
      (exit_event names.GfmTableDelimiterCellValue (place_at events last) ∷ exit_event names.GfmTableDelimiterCell (place_at events last) ∷ [])
      (with_edit false first 0
      (enter_event names.GfmTableDelimiterCell (place_at events first) ∷ enter_event names.GfmTableDelimiterCellValue (place_at events first) ∷ [])
      edits)

  abbrev pub text_edit : Row → Option ℕ → ℕ → Bool → List EditAt → List EditAt
  text_edit row (Some first) i is_bar edits = text_cell_edit (cell_start row first) i edits
  text_edit row None i is_bar edits = if is_bar && row.is_begun then empty_cell_edit i edits else edits

  abbrev pub delimiter_edit : Option ℕ → Option ℕ → List EditAt → List EditAt
  delimiter_edit (Some first) (Some last) edits = delimiter_cell_edit first last edits
  delimiter_edit first last edits = edits

  abbrev pub kind_edit : Option RowKind → Row → ℕ → Bool → List EditAt → List EditAt
  kind_edit None row i is_bar edits = edits
  kind_edit (Some Text) row i is_bar edits = text_edit row row.first i is_bar edits
  kind_edit (Some Delimiters) row i is_bar edits = delimiter_edit row.first row.last edits

  -- the cell that ends before the event at an index, which may be a bar
  abbrev pub cell_edit : Row → ℕ → Bool → List EditAt → List EditAt
  cell_edit row i is_bar edits = kind_edit row.kind row i is_bar edits

  -- what an event adds to the edits: a bar, or the end of a row, ends a cell
  abbrev pub event_edit : Row → Event → ℕ → List EditAt → List EditAt
  event_edit row e i edits =
      if is_event Enter names.GfmTableCellDivider e then cell_edit row i true edits
      else (if sameb the_type e.kind Exit && is_some (row_kind e) then cell_edit row i false edits else edits)

  abbrev pub edit_or : Row → Option Event → ℕ → List EditAt → List EditAt
  edit_or row None i edits = edits
  edit_or row (Some e) i edits = event_edit row e i edits

  abbrev pub index_edit : Row → ℕ → List EditAt → List EditAt
  index_edit row i edits = edit_or row (slice_get events i) i edits

  -- what is known of the row that is open before an index
  unfoldable pub row_before : ℕ → Row
  row_before zero = outside
  row_before (suc i) = known_at (row_before i) i

  -- edits, and those that make the cells of rows, up to an index
  unfoldable pub row_edits : List EditAt → ℕ → List EditAt
  row_edits edits zero = edits
  row_edits edits (suc i) = index_edit (row_before i) i (row_edits edits i)
