-- Lists: items side by side whose markers are the same (CommonMark 5.3).
--
--     list ::= item *( *between item)
--     between ::= line_ending | blank_line_ending | space_or_tab | block_quote_prefix
--
-- Any other block ends a list, and so does an item with another marker. What is open has a level each, the innermost the last; in a level are the items that
-- may go on there.
use Rattle.std.specs.Prelude.{ℕ, zero, suc, ◌+◌, ◌-◌, Bool, false, ◌==◌, ◌&&◌, ◌||◌, if◌then◌else◌, List, [], ◌∷◌, ◌++◌, length, take}
use Rattle.std.specs.Prelude.{is_none, slice_get, Option, None, Some}
use Rattle.definition_text.specs.Ascii.{dot, right_parenthesis}
use Rattle.engine_events.specs.declared.event.Event.{Event}
use Rattle.engine_events.specs.declared.event.Kind.{Kind}
use Rattle.engine_events.specs.declared.event.Kind.TheVariants.{Enter, Exit}
use Rattle.engine_events.specs.declared.event.Name.{Name}
use Rattle.engine_events.specs.declared.event.Name.TheVariants as names
use Rattle.engine_events.specs.Names.{same_name}
use Rattle.engine_edits.specs.Edits.{EditAt, with_edit}
use Rattle.state_edits_data.specs.Each.{enter_event, exit_event, is_bound, is_event, later, place_at}
use Rattle.state_edits_blocks.specs.declared.list_item.Run.{Run}

abbrev pub run_from : ℕ → ℕ → Run
run_from i marker = record { enter = i; exit = i; marker = marker }

-- ---- markers

abbrev pub or_zero : Option ℕ → ℕ
or_zero None = 0
or_zero (Some b) = b

abbrev pub byte_at : List ℕ → ℕ → ℕ
byte_at bytes i = or_zero (slice_get bytes i)

-- what may stand between two items of a list
abbrev pub is_between : Event → Bool
is_between e =
    same_name e.name names.LineEnding || (same_name e.name names.BlankLineEnding || (same_name e.name names.SpaceOrTab
    || (same_name e.name names.BlockQuotePrefix || same_name e.name names.BlockQuoteMarker)))

-- the event of a list, by the marker of its items (CommonMark 5.2)
abbrev pub list_name : ℕ → Name
list_name marker = if (marker == dot) || (marker == right_parenthesis) then names.ListOrdered else names.ListUnordered

-- ---- levels

abbrev pub or_none : Option (Option Run) → Option Run
or_none None = None
or_none (Some run) = run

abbrev pub top : List (Option Run) → Option Run
top levels = or_none (slice_get levels (length levels - 1))

abbrev pub without_top : List (Option Run) → List (Option Run)
without_top levels = take (length levels - 1) levels

abbrev pub with_top : List (Option Run) → Option Run → List (Option Run)
with_top levels run = without_top levels ++ run ∷ []

-- an item with a marker goes on with the items before it
abbrev pub goes_on : Option Run → ℕ → Bool
goes_on None marker = false
goes_on (Some run) marker = run.marker == marker

-- after the start of something that is no item
abbrev pub other_entered : List (Option Run) → List (Option Run)
other_entered levels = with_top levels None ++ None ∷ []

abbrev pub ends_at : ℕ → Option Run → List (Option Run) → List (Option Run)
ends_at i None levels = levels
ends_at i (Some run) levels = with_top levels (Some (record run { exit = i }))

-- after the end of an item
abbrev pub item_exited : ℕ → List (Option Run) → List (Option Run)
item_exited i levels = ends_at i (top (without_top levels)) (without_top levels)

-- a list of items, if there are any
abbrev pub run_edit : List Event → Option Run → List EditAt → List EditAt
run_edit events None edits = edits
run_edit events (Some run) edits =
    with_edit false (later 1 run.exit) 0 (exit_event (list_name run.marker) (place_at events run.exit) ∷ [])
    (with_edit false run.enter 0 (enter_event (list_name run.marker) (place_at events run.enter) ∷ []) edits)

module _ (bytes : List ℕ) (events : List Event) where
  -- the marker of an item at an index, if it is there
  abbrev pub marker_at : ℕ → Option ℕ
  marker_at i = if is_bound Enter names.ListItemMarker (slice_get events i) then Some (byte_at bytes (place_at events i).index) else None

  -- the first among so many events from an index on
  unfoldable pub marker_within : ℕ → ℕ → Option ℕ
  marker_within i zero = None
  marker_within i (suc n) = if is_none (marker_within i n) then marker_at (i + n) else marker_within i n

  -- the marker of the item that begins at an index
  abbrev pub marker_of : ℕ → ℕ
  marker_of i = or_zero (marker_within i 8)

  -- after the start of an item: it goes on with the items before it, or begins a list
  abbrev pub item_entered : ℕ → List (Option Run) → List (Option Run)
  item_entered i levels =
      (if goes_on (top levels) (marker_of i) then levels else with_top levels (Some (run_from i (marker_of i)))) ++ None ∷ []

  abbrev pub kind_over : Kind → Event → ℕ → List (Option Run) → List (Option Run)
  kind_over Enter e i levels = if same_name e.name names.ListItem then item_entered i levels else other_entered levels
  kind_over Exit e i levels = if same_name e.name names.ListItem then item_exited i levels else without_top levels

  -- after an event that has an index
  abbrev pub levels_over : Event → ℕ → List (Option Run) → List (Option Run)
  levels_over e i levels = if is_between e then levels else kind_over e.kind e i levels

  -- the items that an event ends
  abbrev pub ended : Event → ℕ → List (Option Run) → Option Run
  ended e i levels =
      if is_between e then None
      else (if is_event Enter names.ListItem e && goes_on (top levels) (marker_of i) then None else top levels)

  abbrev pub levels_if : Option Event → ℕ → List (Option Run) → List (Option Run)
  levels_if None i levels = levels
  levels_if (Some e) i levels = levels_over e i levels

  abbrev pub edits_if : Option Event → ℕ → List (Option Run) → List EditAt → List EditAt
  edits_if None i levels edits = edits
  edits_if (Some e) i levels edits = run_edit events (ended e i levels) edits

  -- what the event at an index makes of the levels, and adds to the edits
  abbrev pub levels_at : ℕ → List (Option Run) → List (Option Run)
  levels_at i levels = levels_if (slice_get events i) i levels

  abbrev pub edits_at : ℕ → List (Option Run) → List EditAt → List EditAt
  edits_at i levels edits = edits_if (slice_get events i) i levels edits

  -- the levels, and the edits, up to an index
  unfoldable pub levels_before : ℕ → List (Option Run)
  levels_before zero = None ∷ []
  levels_before (suc i) = levels_at i (levels_before i)

  unfoldable pub edits_before : ℕ → List EditAt
  edits_before zero = []
  edits_before (suc i) = edits_at i (levels_before i) (edits_before i)

  -- the edits that make lists
  abbrev pub list_edits : List EditAt
  list_edits = run_edit events (top (levels_before (length events))) (edits_before (length events))
