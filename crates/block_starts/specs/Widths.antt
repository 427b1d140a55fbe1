-- How many columns a byte has.
use Rattle.std.specs.Prelude.{ℕ, ◌+◌, if◌then◌else◌, ◌==◌}
use Rattle.definition_text.specs.Ascii.{tab}
use Rattle.definition_text.specs.Columns.{columns_after_tab}

-- the columns of a byte that stands at a column
abbrev pub width : ℕ → ℕ → ℕ
width column byte = if byte == tab then 1 + columns_after_tab column else 1
