-- What becomes of spaces and tabs at the end of data: they aren't printed, or they are a hard break (CommonMark 6.7 and 6.8).
use Rattle.std.specs.Prelude.{◌≡◌, ℕ, ◌+◌, ◌-◌, ◌<◌, Bool, true, false, not, ◌==◌, ◌&&◌, nat_lt, if◌then◌else◌, is_some, List, [], ◌∷◌, ◌++◌, length, take}
use Rattle.std.specs.Prelude.{drop, slice_get, Option, None, Some}
use Rattle.std.specs.List.{list_all, suffix_len}
use Rattle.markdown_options.specs.declared.configuration.Constructs.{Constructs}
use Rattle.definition_text.specs.Columns.{indent, is_white}
use Rattle.definition_text.specs.Content.{is_eol}
use Rattle.definition_inline.specs.HardBreak.{ends_here, ends_inner_line, line_spaces_at}
use Rattle.definition_inline.specs.Inline.{InlineLeaf, Found, TrailingBreak}
use Rattle.engine_edits.specs.Edits.{EditAt, with_edit}
use Rattle.engine_events.specs.declared.event.Event.{Event}
use Rattle.engine_events.specs.declared.event.Kind.TheVariants.{Enter, Exit}
use Rattle.engine_events.specs.declared.event.Name.TheVariants as names
use Rattle.engine_events.specs.declared.place.Point.{Point}
use Rattle.state_edits_data.specs.Data.{is_data}
use Rattle.state_edits_data.specs.Each.{around, around_if, data_part, place_at, place_past}
use Rattle.state_edits_data.specs.Whitespace.{begins, ends, head_size, index_edit, is_line, tail_size}

-- what follows data among the events follows it among the codes: a line ending or nothing, something after that ending or nothing, and no space or tab, as
-- those are data
pub record Follows (events : List Event) (i : ℕ) (rest : List ℕ) : Type 0 where
  pub here : ends true events i ≡ ends_here rest
  pub inner : (is_line Enter (slice_get events (i + 2)) && is_some (slice_get events (i + 4))) ≡ ends_inner_line rest
  pub apart : indent rest ≡ 0

abbrev pub is_break : List InlineLeaf → Bool
is_break (TrailingBreak ∷ parts) = true
is_break parts = false

-- the events of a leaf of spaces and tabs
abbrev pub white_events : Option Found → Point → Point → List Event
white_events None from to = []
white_events (Some leaf) from to = around (if is_break leaf.parts then names.HardBreakTrailing else names.SpaceOrTab) from to

-- the events of data of which so many bytes at its start and at its end are cut, by the leaf that the definition has for those at its end
abbrev pub data_events : List ℕ → ℕ → ℕ → Option Found → Point → Point → List Event
data_events part head tail found from to =
    let first = place_past from (take head part) in
    let last = place_past from (take (length part - tail) part) in
    around_if (not (head == 0)) names.SpaceOrTab from first ++ around_if (nat_lt head (length part - tail)) names.Data first last ++ white_events found last to

-- the edit at data: none where nothing is cut, otherwise these events in its place
abbrev pub data_edit : Constructs → List ℕ → ℕ → ℕ → List ℕ → ℕ → Point → Point → List EditAt → List EditAt
data_edit on part head tail rest i from to edits =
    if nat_lt 0 (head + tail) then with_edit false i 2 (data_events part head tail (line_spaces_at on (drop (length part - tail) part ++ rest)) from to) edits
    else edits

abbrev pub cut_before : List ℕ → List Event → ℕ → ℕ
cut_before bytes events i = head_size (begins true events i) (data_part bytes events i)

abbrev pub cut_after : List ℕ → List Event → ℕ → ℕ
cut_after bytes events i = tail_size (ends true events i) (drop (cut_before bytes events i) (data_part bytes events i))

-- spaces and tabs at the end of data become a hard break in a text exactly where the definition has one, and white space that isn't printed where it has that
abbrev pub TrailingVerdict : Type 0
TrailingVerdict =
    (on : Constructs) (bytes : List ℕ) (events : List Event) (i : ℕ) (edits : List EditAt) (rest : List ℕ)
    → is_data Enter (slice_get events i) ≡ true → is_data Exit (slice_get events (i + 1)) ≡ true → Follows events i rest
    → index_edit true on.hard_break_trailing bytes events i edits
    ≡ data_edit on (data_part bytes events i) (cut_before bytes events i) (cut_after bytes events i) rest i (place_at events i) (place_at events (i + 1)) edits

-- a byte of data ends no line
abbrev pub is_inner : ℕ → Bool
is_inner b = not (is_eol b)

-- before those the definition has none in the data
abbrev pub EarlierVerdict : Type 0
EarlierVerdict =
    (on : Constructs) (part rest : List ℕ) (k : ℕ) → list_all is_inner part ≡ true → k < length part - suffix_len is_white part
    → line_spaces_at on (drop k part ++ rest) ≡ None
