-- Places in a text.
use Rattle.std.specs.Prelude.{ℕ, if◌then◌else◌, ◌==◌, List, max}
use Rattle.engine_events.specs.declared.place.Point.{Point}
use Rattle.markdown_options.specs.declared.unist.Point as unist
use Rattle.engine_events.specs.Columns.{between, column_past, mark_size}

-- without the columns of a tab
abbrev pub unist_point : Point → unist.Point
unist_point p = record { line = p.line; column = p.column; offset = p.index }

-- the place at a later index of the same line; a byte order mark at the text's start has no columns
abbrev pub shift_to : List ℕ → ℕ → Point → Point
shift_to bytes index p =
    if index == p.index then p
    else record { line = p.line; column = column_past (between (max p.index (mark_size bytes)) index bytes) p.column; index = index; vs = 0 }
