-- The text as the states see it (CommonMark 2.1 and 2.2): a tab gives itself and then spaces up to the next tab stop, a line ending gives one line feed, and a
-- line may be read from a later place than its start. A byte order mark at the text's start gives its bytes, and has no columns.
use Rattle.std.specs.Prelude.{◌≡◌, ℕ, ◌+◌, ◌-◌, ◌^◌, ◌≤◌, length, zero, suc, min, Bool, true, false, not, ◌==◌, ◌&&◌, ◌||◌, nat_lt, nat_le, if◌then◌else◌, List}
use Rattle.std.specs.Prelude.{[], slice_get, slice_index, Option, None, Some}
use Rattle.std.specs.Ordering.{nat_cmp}
use Rattle.std.specs.BTreeMap.{is_at, insert_entry}
use Rattle.std.specs.Map.{lookup}
use Rattle.engine_events.specs.declared.place.Point.{Point}
use Rattle.engine_events.specs.Columns.{mark_size, tab_size}
use Rattle.markdown_engine.specs.declared.virtual_text.VirtualByte.{VirtualByte}

-- one more, up to the most that a number of the program holds
abbrev pub one_more : ℕ → ℕ
one_more n = min (n + 1) (2 ^ 64 - 1)

-- the place after the last column of a tab
abbrev pub in_line : Point → Point
in_line p = let q : Point = record { line = p.line; column = one_more p.column; index = p.index + 1; vs = 0 } in q

-- whether an index is in a byte order mark at the text's start
abbrev pub is_in_mark : List ℕ → ℕ → Bool
is_in_mark bytes index = nat_lt index (mark_size bytes)

-- the place after a byte of a line that is no tab; the bytes of a byte order mark have no columns
abbrev pub after_byte : List ℕ → Point → Point
after_byte bytes p =
    let column = if is_in_mark bytes p.index then p.column else one_more p.column in
    let q : Point = record { line = p.line; column = column; index = p.index + 1; vs = 0 } in q

-- the place after a line ending of so many bytes
abbrev pub next_line : ℕ → Point → Point
next_line size p = let q : Point = record { line = one_more p.line; column = 1; index = p.index + size; vs = 0 } in q

-- the place after a column of a tab that has more
abbrev pub in_tab : Point → Point
in_tab p = let q : Point = record { line = p.line; column = one_more p.column; index = p.index; vs = p.vs + 1 } in q

abbrev pub as_byte : ℕ → Point → VirtualByte
as_byte b p = record { byte = b; next = p }

-- a column of a tab; no tab has more than four
abbrev pub tab_column : Point → VirtualByte
tab_column p = as_byte (if p.vs == 0 then 9 else 32) (if (tab_size p.column == 1) || nat_le 3 p.vs then in_line p else in_tab p)

abbrev pub is_feed : Option ℕ → Bool
is_feed None = false
is_feed (Some b) = b == 10

-- whether a line feed stands at an index
abbrev pub feeds : List ℕ → ℕ → Bool
feeds bytes index = is_feed (slice_get bytes index)

-- what a byte gives, and the place after it
abbrev pub byte_given : List ℕ → Point → ℕ → VirtualByte
byte_given bytes p b =
    if b == 9 then tab_column p
    else if b == 10 then as_byte 10 (next_line 1 p)
    else if b == 13 then as_byte 10 (next_line (if feeds bytes (p.index + 1) then 2 else 1) p)
    else as_byte b (after_byte bytes p)

-- the byte of the virtual text at a place
abbrev pub virtual_byte : List ℕ → Point → VirtualByte
virtual_byte bytes p = byte_given bytes p (slice_index bytes p.index)

-- whether a place is before an index and a column of a tab there
abbrev pub is_before : ℕ × ℕ → Point → Bool
is_before to p = nat_lt p.index to.0 || ((p.index == to.0) && nat_lt p.vs to.1)

-- where a text may be cut: an index and a column of a tab there, of which only the text's end has none
pub record IsCut (bytes : List ℕ) (to : ℕ × ℕ) : Type 0 where
  pub within : to.0 ≤ length bytes
  pub column : to.0 ≡ length bytes → to.1 ≡ 0

-- the byte at a place, before an index and a column of a tab there
abbrev pub byte_before : List ℕ → ℕ × ℕ → Point → Option VirtualByte
byte_before bytes to p = if is_before to p then Some (virtual_byte bytes p) else None

abbrev pub is_return : Option ℕ → Bool
is_return None = false
is_return (Some b) = b == 13

-- whether a line ending stands right before an index
abbrev pub ends_before : List ℕ → ℕ → Bool
ends_before bytes index = feeds bytes (index - 1) || (is_return (slice_get bytes (index - 1)) && not (feeds bytes index))

-- where the line of an index starts: after the last line ending before it
abbrev pub line_start : List ℕ → ℕ → ℕ
line_start bytes zero = 0
line_start bytes (suc index) = if ends_before bytes (index + 1) then index + 1 else line_start bytes index

-- where lines are read from, by the index of their start; of the others nothing is skipped
abbrev pub Skips : Type 0
Skips = List (ℕ × Point)

-- a line is read from the place that is given for it, if that is after its start
abbrev pub start_of_line : Point → Option Point → Point
start_of_line start None = start
start_of_line start (Some q) = if is_before (q.index, q.vs) start then q else start

-- where reading goes on from a place: at a line's start, after what is skipped
abbrev pub place_in : Skips → Point → Point
place_in skips p = if not (p.column == 1) || not (p.vs == 0) then p else start_of_line p (lookup (is_at (nat_cmp p.index)) skips)

-- from a place over the bytes before an index and a column of a tab there
pub data Walks (bytes : List ℕ) (to : ℕ × ℕ) : Point → Point → Type 0 where
  there : {p : Point} → is_before to p ≡ false → Walks bytes to p p
  over : {p q : Point} → is_before to p ≡ true → Walks bytes to (virtual_byte bytes p).next q → Walks bytes to p q

-- what a text is read from
pub record Source : Type 0 where
  pub bytes : List ℕ
  pub skips : Skips

-- a text of which nothing is skipped
abbrev pub without_skips : List ℕ → Source
without_skips bytes = record { bytes = bytes; skips = [] }

-- of a further line that has a skip
abbrev pub with_skip : Source → Point → Source
with_skip s p = record s { skips = insert_entry nat_cmp s.skips (line_start s.bytes p.index) p }

-- a text: for each place where reading goes on, and there the byte and the place after it, or none at the text's end
pub record Text : Type 0 where
  pub start : Point → Point
  pub byte : Point → Option VirtualByte

-- the virtual text up to an index and a column of a tab there
abbrev pub text_to : Source → ℕ × ℕ → Text
text_to s to = record { start = place_in s.skips; byte = byte_before s.bytes to }

-- all of a text of which nothing is skipped
abbrev pub whole_text : List ℕ → Text
whole_text bytes = text_to (without_skips bytes) (length bytes, 0)
