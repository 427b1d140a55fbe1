-- Spaces and tabs of data at the ends of lines, and at the ends of a text: they aren't printed, or they are a hard break.
use Rattle.std.specs.Prelude.{ℕ, zero, suc, ◌+◌, ◌-◌, Bool, false, not, ◌==◌, ◌&&◌, nat_le, nat_lt, is_some, if◌then◌else◌, List, [], ◌++◌, length, take}
use Rattle.std.specs.Prelude.{drop, slice_get, Option, None, Some}
use Rattle.std.specs.List.{list_all, prefix_len, suffix_len}
use denote.Enum.Bare.{sameb}
use Rattle.engine_events.specs.contracts.event.Kind.{the_type}
use Rattle.engine_events.specs.declared.event.Event.{Event}
use Rattle.engine_events.specs.declared.event.Kind.{Kind}
use Rattle.engine_events.specs.declared.event.Kind.TheVariants.{Enter, Exit}
use Rattle.engine_events.specs.declared.event.Name.{Name}
use Rattle.engine_events.specs.declared.event.Name.TheVariants as names
use Rattle.engine_events.specs.declared.place.Point.{Point}
use Rattle.engine_events.specs.Names.{same_name}
use Rattle.engine_edits.specs.Edits.{EditAt, with_edit}
use Rattle.definition_text.specs.Ascii.{space}
use Rattle.definition_text.specs.Columns.{is_white}
use Rattle.state_edits_data.specs.Data.{is_data}
use Rattle.state_edits_data.specs.Each.{around_if, data_part, place_at, place_past}

abbrev pub is_space : ℕ → Bool
is_space b = b == space

-- a line ending begins, or ends
abbrev pub is_line : Kind → Option Event → Bool
is_line kind None = false
is_line kind (Some e) = sameb the_type e.kind kind && same_name e.name names.LineEnding

-- a text is trimmed at its ends, too
abbrev pub ends_part : Bool → Option Event → Bool
ends_part in_text o = if is_some o then is_line Enter o else in_text

-- how many bytes are cut off data at its start, and at its end
abbrev pub head_size : Bool → List ℕ → ℕ
head_size begins part = if begins then prefix_len is_white part else 0

abbrev pub tail_size : Bool → List ℕ → ℕ
tail_size ends part = if ends then suffix_len is_white part else 0

-- two spaces or more, and no tab
abbrev pub are_spaces : List ℕ → ℕ → Bool
are_spaces part tail = nat_le 2 tail && list_all is_space (drop (length part - tail) part)

abbrev pub tail_name : Bool → Name
tail_name breaks = if breaks then names.HardBreakTrailing else names.SpaceOrTab

-- the events in place of data that begins and ends at these places
abbrev pub trimmed_data : List ℕ → ℕ → ℕ → Bool → Point → Point → List Event
trimmed_data part head tail breaks from to =
    let first = place_past from (take head part) in
    let last = place_past from (take (length part - tail) part) in
    around_if (not (head == 0)) names.SpaceOrTab from first
    ++ around_if (nat_lt head (length part - tail)) names.Data first last
    ++ around_if (not (tail == 0)) (tail_name breaks) last to

abbrev pub begins : Bool → List Event → ℕ → Bool
begins in_text events i = if i == 0 then in_text else is_line Exit (slice_get events (i - 1))

abbrev pub ends : Bool → List Event → ℕ → Bool
ends in_text events i = ends_part in_text (slice_get events (i + 2))

-- data is followed by a line ending that isn't the last of all
abbrev pub may_break : Bool → List Event → ℕ → Bool
may_break hard events i = hard && (is_line Enter (slice_get events (i + 2)) && is_some (slice_get events (i + 4)))

-- data of these bytes, of which so many are cut
abbrev pub white_edit : Bool → List Event → ℕ → List ℕ → ℕ → ℕ → List EditAt → List EditAt
white_edit hard events i part head tail edits =
    if nat_lt 0 (head + tail) then with_edit false i 2 (trimmed_data part head tail (may_break hard events i && are_spaces part tail) (place_at events i)
    (place_at events (i + 1))) edits else edits

abbrev pub part_edit : Bool → Bool → List Event → ℕ → List ℕ → ℕ → List EditAt → List EditAt
part_edit in_text hard events i part head edits = white_edit hard events i part head (tail_size (ends in_text events i) (drop head part)) edits

-- what an index adds to the edits
abbrev pub index_edit : Bool → Bool → List ℕ → List Event → ℕ → List EditAt → List EditAt
index_edit in_text hard bytes events i edits =
    if is_data Enter (slice_get events i) && is_data Exit (slice_get events (i + 1))
    then part_edit in_text hard events i (data_part bytes events i) (head_size (begins in_text events i) (data_part bytes events i)) edits else edits

-- the edits of white space, up to an index
unfoldable pub white_edits : Bool → Bool → List ℕ → List Event → ℕ → List EditAt
white_edits in_text hard bytes events zero = []
white_edits in_text hard bytes events (suc i) = index_edit in_text hard bytes events i (white_edits in_text hard bytes events i)
