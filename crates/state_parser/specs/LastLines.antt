-- The last lines of containers.
use Rattle.std.specs.Prelude.{◌≡◌, ℕ, zero, suc, ◌<◌, ◌≤◌, ◌-◌, Bool, false, not, nat_lt, ◌==◌, ◌&&◌, ◌||◌, if◌then◌else◌, List, [], ◌∷◌, ◌++◌, length}
use Rattle.std.specs.Prelude.{slice_get, slice_index_or, slice_set, Option, None, Some, unwrap_or, Contains}
use Rattle.std.specs.List.{fold, take_while}
use denote.Enum.Bare.{sameb}
use Rattle.engine_events.specs.contracts.event.Kind.{the_type}
use Rattle.engine_events.specs.declared.event.Event.{Event}
use Rattle.engine_events.specs.declared.event.Kind.TheVariants.{Enter}
use Rattle.engine_events.specs.declared.event.Name.TheVariants as names
use Rattle.engine_events.specs.declared.place.Point.{Point}
use Rattle.engine_events.specs.Events.{point_of}
use Rattle.engine_events.specs.Names.{same_name}
use Rattle.state_reader.specs.declared.span.Span.{Span}
use Rattle.state_parser.specs.Events.{is_ending}

-- ---- the lines that aren't blank

-- an event says that its line isn't blank
abbrev pub is_content : Event → Bool
is_content e = sameb the_type e.kind Enter && not (same_name e.name names.SpaceOrTab || same_name e.name names.BlankLineEnding)

-- the last of these lines, or 0
abbrev pub last_of : List ℕ → ℕ
last_of lines = unwrap_or (slice_get lines (length lines - 1)) 0

-- the lines with one more, if it is after the last
abbrev pub with_line : List ℕ → ℕ → List ℕ
with_line lines line = if nat_lt (last_of lines) line then lines ++ line ∷ [] else lines

abbrev pub with_event : List ℕ → Event → List ℕ
with_event lines e = if is_content e then with_line lines (point_of e).line else lines

-- those of flow, in order
abbrev pub content_lines : List Event → List ℕ
content_lines flow = fold with_event [] flow

abbrev pub is_within : Option Event → Point → Bool
is_within None end = false
is_within (Some e) end = (not (is_ending e) && ((point_of e).line == end.line)) && nat_lt (point_of e).index end.index

-- a block is open on the last line, which containers take whole
abbrev pub takes_last_line : List Event → Point → Bool
takes_last_line flow end = is_within (slice_get flow (length flow - 1)) end

-- those of a text that ends at a place
abbrev pub filled_lines : List Event → Point → List ℕ
filled_lines flow end = if takes_last_line flow end then with_line (content_lines flow) end.line else content_lines flow

-- the last line isn't one of these
abbrev pub is_last_blank : List ℕ → Point → Bool
is_last_blank lines end = not (last_of lines == end.line)

-- ---- the last lines

-- a line is no earlier than those of some lines that are before another
abbrev pub IsAfter : List ℕ → ℕ → ℕ → Type 0
IsAfter lines before line = (l : ℕ) → Contains lines l → l < before → l ≤ line

-- each container ends no earlier than its last mark, than a line that isn't blank on which it is open, and than a container in it, which begins later
pub record AreLate (lines : List ℕ) (spans : List Span) (line_at : ℕ → ℕ) : Type 0 where
  pub marker : (i : ℕ) (s : Span) → slice_get spans i ≡ Some s → s.marker ≤ line_at i
  pub content : (i : ℕ) (s : Span) → slice_get spans i ≡ Some s → IsAfter lines s.close (line_at i)
  pub inner : (i j : ℕ) (s : Span) → slice_get spans i ≡ Some s → s.parent ≡ Some j → j < i → line_at i ≤ line_at j

-- the last lines of containers: the least with which each ends late enough
pub record AreLastLines (lines : List ℕ) (spans : List Span) (last : List ℕ) : Type 0 where
  pub count : length last ≡ length spans
  pub late : AreLate lines spans (λ i. slice_index_or last i 0)
  pub least : (line_at : ℕ → ℕ) → AreLate lines spans line_at → (i : ℕ) (s : Span) → slice_get spans i ≡ Some s → slice_index_or last i 0 ≤ line_at i

-- ---- how they are found

-- the last of these lines, which are in order, that is before another, or 0
abbrev pub last_before : List ℕ → ℕ → ℕ
last_before lines line = last_of (take_while (λ l. nat_lt l line) lines)

-- the last line of a container by its own marks, and by the lines on which it is open
abbrev pub own_line : List ℕ → Span → ℕ
own_line lines s = if nat_lt (last_before lines s.close) s.marker then s.marker else last_before lines s.close

abbrev pub raised_to : Option ℕ → List ℕ → ℕ → List ℕ
raised_to None last i = last
raised_to (Some j) last i =
    if (nat_lt j i && nat_lt i (length last)) && nat_lt (slice_index_or last j 0) (slice_index_or last i 0) then slice_set last j (slice_index_or last i 0)
    else last

abbrev pub raised_by : Option Span → List ℕ → ℕ → List ℕ
raised_by None last i = last
raised_by (Some s) last i = raised_to s.parent last i

-- the container around one ends no earlier
abbrev pub raised : List Span → List ℕ → ℕ → List ℕ
raised spans last i = raised_by (slice_get spans i) last i

-- that around each of the first so many, the last one first
abbrev pub all_raised : List Span → List ℕ → ℕ → List ℕ
all_raised spans last zero = last
all_raised spans last (suc n) = all_raised spans (raised spans last n) n
