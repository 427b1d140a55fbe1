-- Places in a text, byte by byte (CommonMark 2.1 and 2.2).
use Rattle.std.specs.Prelude.{◌≡◌, ℕ, ◌+◌, ◌*◌, ◌≤◌, ◌<◌, Bool, true, false, ◌&&◌, if◌then◌else◌, ◌==◌, List, length, nat_le, nat_lt, slice_index}
use Rattle.std.specs.List.{fold}
use Rattle.engine_events.specs.Columns.{between, column_after, mark_size}
use Rattle.engine_events.specs.declared.place.Point.{Point}
use Rattle.parse_output.specs.declared.spot.Spot.{Spot}

abbrev pub spot : ℕ → ℕ → ℕ → Bool → Spot
spot line column index returned = record { line = line; column = column; index = index; returned = returned }

-- before the first byte
abbrev pub start : Spot
start = spot 1 1 0 false

-- after one more byte: a byte order mark of a size has no columns, and an LF after a CR ends the same line
abbrev pub next_spot : ℕ → Spot → ℕ → Spot
next_spot mark s b =
    if nat_lt s.index mark then spot s.line s.column (s.index + 1) false
    else (if b == 10 then spot (if s.returned then s.line else s.line + 1) 1 (s.index + 1) false
    else (if b == 13 then spot (s.line + 1) 1 (s.index + 1) true
    else spot s.line (column_after b s.column) (s.index + 1) false))

-- after the bytes up to an index
abbrev pub spot_at : List ℕ → ℕ → Spot → Spot
spot_at text index s = fold (next_spot (mark_size text)) s (between s.index index text)

-- a byte that takes one column and ends no line, whatever else it is
abbrev pub is_plain : ℕ → Bool
is_plain b = nat_le 32 b

-- the bytes between two places are of this kind
abbrev pub ArePlain : List ℕ → ℕ → ℕ → Type 0
ArePlain text from to = (k : ℕ) → from ≤ k → k < to → is_plain (slice_index text k) ≡ true

-- after so many of these
abbrev pub after_plain : Spot → ℕ → Spot
after_plain s count = spot s.line (s.column + count) (s.index + count) (s.returned && (count == 0))

-- so many columns of the tab there are before
abbrev pub point_in : Spot → ℕ → Point
point_in s vs = record { line = s.line; column = s.column + vs; index = s.index; vs = vs }

-- a place in a text, whose line and column its index bounds
pub record IsIn (text : List ℕ) (s : Spot) : Type 0 where
  pub index : s.index ≤ length text
  pub line : s.line ≤ s.index + 1
  pub column : s.column ≤ 4 * s.index + 1
