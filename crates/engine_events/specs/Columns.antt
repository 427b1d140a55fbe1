-- Columns (CommonMark 2.2): tab stops are 4 columns apart, and every other byte of a line has one column.
use Rattle.std.specs.Prelude.{ℕ, ◌+◌, ◌-◌, ◌%◌, Bool, not, if◌then◌else◌, ◌==◌, ◌&&◌, ◌||◌, List, [], ◌∷◌, take, drop}

-- how many columns a tab at a column has, from 1 to 4
abbrev pub tab_size : ℕ → ℕ
tab_size column = 4 - (column + 3) % 4

-- the column after a byte of a line
abbrev pub column_after : ℕ → ℕ → ℕ
column_after b column = if b == 9 then column + tab_size column else column + 1

-- the column after some bytes of a line
abbrev pub column_past : List ℕ → ℕ → ℕ
column_past [] column = column
column_past (b ∷ bs) column = column_past bs (column_after b column)

-- a byte that ends no line
abbrev pub ends_no_line : ℕ → Bool
ends_no_line b = not ((b == 10) || (b == 13))

-- the bytes between two places
abbrev pub between : ℕ → ℕ → List ℕ → List ℕ
between from to bytes = take (to - from) (drop from bytes)

-- the size of a byte order mark at the start of a text
abbrev pub mark_size : List ℕ → ℕ
mark_size (a ∷ b ∷ c ∷ others) = if (a == 239) && (b == 187) && (c == 191) then 3 else 0
mark_size bytes = 0
