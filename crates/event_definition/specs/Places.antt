-- Places in a text, by the codes of what is before them (CommonMark 2.1 and 2.2).
use Rattle.std.specs.Prelude.{ℕ, ◌+◌, Bool, if◌then◌else◌, ◌==◌, List, [], ◌∷◌, length}
use Rattle.definition_text.specs.Ascii.{tab}
use Rattle.definition_text.specs.Columns.{Code, is_tab_column}
use Rattle.definition_text.specs.Content.{is_eol, return_and_feed}
use Rattle.engine_events.specs.Columns.{tab_size}
use Rattle.engine_events.specs.Names.{same_name}
use Rattle.engine_events.specs.declared.event.Name.{Name}
use Rattle.engine_events.specs.declared.event.Name.TheVariants as n
use Rattle.engine_events.specs.declared.place.Point.{Point}

abbrev pub point : ℕ → ℕ → ℕ → ℕ → Point
point line column index vs = record { line = line; column = column; index = index; vs = vs }

-- before the first byte
abbrev pub first_point : Point
first_point = point 1 1 0 0

-- how many bytes a line ending has
abbrev pub ending_size : Code → ℕ
ending_size c = if c == return_and_feed then 2 else 1

-- the column after a code that ends no line; a tab of which no further column is a code of its own goes to the next tab stop
abbrev pub next_column : Code → ℕ → ℕ
next_column c column = if c == tab then column + tab_size column else column + 1

-- the point after a code; `more` where the next code is a further column of the same tab
abbrev pub after_code : Bool → Code → Point → Point
after_code more c p =
    if is_eol c then point (p.line + 1) 1 (p.index + ending_size c) 0
    else (if more then point p.line (p.column + 1) p.index (p.vs + 1)
    else point p.line (next_column c p.column) (p.index + 1) 0)

-- whether codes begin with a further column of a tab; of no codes it is given
abbrev pub begins_in_tab : List Code → Bool → Bool
begins_in_tab [] more = more
begins_in_tab (c ∷ cs) more = is_tab_column c

-- the point after codes; `more` where the code after them is a further column of a tab
abbrev pub after_codes : Bool → List Code → Point → Point
after_codes more [] p = p
after_codes more (c ∷ cs) p = after_codes more cs (after_code (begins_in_tab cs more) c p)

-- the point after a token: a byte order mark has no columns
abbrev pub after_token : Bool → Name → List Code → Point → Point
after_token more name cs p =
    if same_name name n.ByteOrderMark then point p.line p.column (p.index + length cs) 0 else after_codes more cs p
