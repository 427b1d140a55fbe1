-- Emphasis, strong emphasis, strikethrough and marked text in place of the runs that go together (CommonMark 6.2, GFM 6.5).
use Rattle.std.specs.Prelude.{ℕ, zero, suc, ◌+◌, ◌-◌, Bool, false, ◌==◌, if◌then◌else◌, List, [], ◌∷◌, ◌++◌, length, take, drop, reverse, slice_get}
use Rattle.std.specs.Prelude.{slice_index_or, unwrap_or, Option, None, Some}
use Rattle.std.specs.List.{fold}
use Rattle.markdown_options.specs.declared.configuration.ParseOptions.{ParseOptions}
use Rattle.definition_inline.specs.Attention.{Run, run_between}
use Rattle.definition_inline.specs.Pairing.{Pair, pairs}
use Rattle.definition_inline.specs.Inline.{SpanKind, Emphasis, Strong, Strikethrough, Mark}
use Rattle.definition_inline.specs.Spans.{span_of}
use Rattle.definition_inline.specs.SpanRows.{Closes, Holds, Opens, SpanRow, run_rows}
use Rattle.inline_runs.specs.Paired.{closed_at, opened_at}
use Rattle.engine_text.specs.Bytes.{code_after, code_before}
use Rattle.engine_text.specs.Characters.{kind_of_any}
use Rattle.engine_events.specs.declared.event.Event.{Event}
use Rattle.engine_events.specs.declared.event.Kind.TheVariants.{Enter, Exit}
use Rattle.engine_events.specs.declared.event.Name.TheVariants as names
use Rattle.engine_events.specs.declared.place.Point.{Point}
use Rattle.engine_edits.specs.Edits.{EditAt, with_edit}
use Rattle.markdown_engine.specs.Context.{Context}
use Rattle.state_edits_data.specs.Each.{enter_event, exit_event, is_event, later, place_at}
use Rattle.state_edits_attention.specs.declared.attention.SpanNames.{SpanNames}

-- ---- runs

-- the run of a byte from an index of the text up to another
abbrev pub run_from : ParseOptions → (ℕ → Bool) → List ℕ → ℕ → ℕ → Run
run_from options is_punctuation bytes from to =
    run_between options (unwrap_or (slice_get bytes from) 0) (to - from)
    (kind_of_any is_punctuation (code_before bytes from)) (kind_of_any is_punctuation (code_after bytes to))

-- ---- what a run becomes

-- the names of the events of a span
abbrev pub names_of : SpanKind → SpanNames
names_of Emphasis = record { group = names.Emphasis; sequence = names.EmphasisSequence; text = names.EmphasisText }
names_of Strong = record { group = names.Strong; sequence = names.StrongSequence; text = names.StrongText }
names_of Strikethrough = record { group = names.GfmStrikethrough; sequence = names.GfmStrikethroughSequence; text = names.GfmStrikethroughText }
names_of Mark = record { group = names.Mark; sequence = names.MarkSequence; text = names.MarkText }

-- the place so many bytes later
abbrev pub place_later : ℕ → Point → Point
place_later n p = record { line = p.line; column = later n p.column; index = later n p.index; vs = p.vs }

-- events in place of a run, and where they end
pub record RunEvents : Type 0 where
  pub events : List Event
  pub point : Point

abbrev pub with_more : RunEvents → List Event → Point → RunEvents
with_more w more p = record { events = w.events ++ more; point = p }

-- the span of a pair ends: its text before the bytes of the pair, all of it after them
abbrev pub span_end : SpanNames → Point → Point → List Event
span_end n p q = exit_event n.text p ∷ enter_event n.sequence p ∷ exit_event n.sequence q ∷ exit_event n.group q ∷ []

-- it begins, and its text after the bytes of the pair
abbrev pub span_start : SpanNames → Point → Point → List Event
span_start n p q = enter_event n.group p ∷ enter_event n.sequence p ∷ exit_event n.sequence q ∷ enter_event n.text q ∷ []

abbrev pub with_end_of : ℕ → RunEvents → Pair → RunEvents
with_end_of marker w pair = let q = place_later pair.taken w.point in with_more w (span_end (names_of (span_of marker pair)) w.point q) q

abbrev pub with_start_of : ℕ → RunEvents → Pair → RunEvents
with_start_of marker w pair = let q = place_later pair.taken w.point in with_more w (span_start (names_of (span_of marker pair)) w.point q) q

-- so many bytes are data
abbrev pub with_held_data : ℕ → RunEvents → RunEvents
with_held_data n w = let q = place_later n w.point in if n == 0 then w else with_more w (enter_event names.Data w.point ∷ exit_event names.Data q ∷ []) q

-- a run at a place: its first bytes end spans, its last begin some, and those between are data
abbrev pub replace_run : ℕ → List Pair → ℕ → List Pair → Point → RunEvents
replace_run marker closed text started p =
    fold (with_start_of marker) (with_held_data text (fold (with_end_of marker) (record { events = []; point = p }) closed)) started

-- how many bytes of a run are held as they are
abbrev pub held_size : List SpanRow → ℕ
held_size [] = 0
held_size (Holds i ∷ rows) = held_size rows + 1
held_size (Opens s ∷ rows) = held_size rows
held_size (Closes ∷ rows) = held_size rows

abbrev pub no_run : Run
no_run = record { marker = 0; left = 0; may_open = false; may_close = false }

abbrev pub run_at : List Run → ℕ → Run
run_at runs k = slice_index_or runs k no_run

-- how many bytes of a run are in no pair
abbrev pub data_size : List Run → ℕ → ℕ
data_size runs k = held_size (run_rows (pairs runs) k (run_at runs k))

-- the events in place of one of the runs of a container, which stands at this point
abbrev pub run_events : List Run → ℕ → Point → List Event
run_events runs k p = (replace_run (run_at runs k).marker (closed_at k runs) (data_size runs k) (reverse (opened_at k runs)) p).events

module _ (events : List Event) where
  -- the edit of one of the runs of a container, which are entered at these indices
  abbrev pub run_edit : List ℕ → List Run → ℕ → List EditAt → List EditAt
  run_edit entries runs k edits = let at = unwrap_or (slice_get entries k) 0 in with_edit false at 2 (run_events runs k (place_at events at)) edits

  -- the edits of so many of them
  unfoldable pub run_edits : List ℕ → List Run → ℕ → List EditAt → List EditAt
  run_edits entries runs zero edits = edits
  run_edits entries runs (suc k) edits = run_edit entries runs k (run_edits entries runs k edits)

-- ---- containers

-- the runs that are in no container whose end was found, the indices at which they are entered, how many were found before each label's text that is open, and
-- the edits so far
pub record SearchState : Type 0 where
  pub entries : List ℕ
  pub runs : List Run
  pub starts : List ℕ
  pub edits : List EditAt

abbrev pub empty_search : SearchState
empty_search = record { entries = []; runs = []; starts = []; edits = [] }

-- a run is found
abbrev pub with_run : ℕ → Run → SearchState → SearchState
with_run entry run s = record s { entries = s.entries ++ entry ∷ []; runs = s.runs ++ run ∷ [] }

-- a label's text begins
abbrev pub with_text_start : SearchState → SearchState
with_text_start s = record s { starts = s.starts ++ length s.runs ∷ [] }

-- how many runs were found before the innermost text
abbrev pub last_of : List ℕ → ℕ
last_of starts = unwrap_or (slice_get starts (length starts - 1)) 0

module _ (events : List Event) where
  -- the runs after so many are those of a container
  abbrev pub tell_after : ℕ → SearchState → SearchState
  tell_after n s =
      record s {
        entries = take n s.entries;
        runs = take n s.runs;
        edits = run_edits events (drop n s.entries) (drop n s.runs) (length (drop n s.runs)) s.edits;
      }

  -- a label's text ends
  abbrev pub with_text_end : SearchState → SearchState
  with_text_end s = tell_after (last_of s.starts) (record s { starts = take (length s.starts - 1) s.starts })

module _ {T : Type 0} (is_punctuation : ℕ → Bool) (x : Context T) (events : List Event) where
  -- the run that is entered at an index
  abbrev pub run_of_enter : ℕ → Run
  run_of_enter i = run_from x.options is_punctuation x.bytes (place_at events i).index (place_at events (later 1 i)).index

  -- what an event adds
  abbrev pub with_event : ℕ → Event → SearchState → SearchState
  with_event i e s =
      if is_event Enter names.AttentionSequence e then with_run i (run_of_enter i) s
      else (if is_event Enter names.LabelText e then with_text_start s
      else (if is_event Exit names.LabelText e then with_text_end events s else s))

  abbrev pub with_index : ℕ → Option Event → SearchState → SearchState
  with_index i None s = s
  with_index i (Some e) s = with_event i e s

  -- what is found in so many events
  unfoldable pub search_to : ℕ → SearchState
  search_to zero = empty_search
  search_to (suc i) = with_index i (slice_get events i) (search_to i)

  -- the edits that put spans in place of runs: those in labels, then those that are in none
  abbrev pub attention_edits : List EditAt
  attention_edits = (tell_after events 0 (search_to (length events))).edits
