-- The calls of footnotes among rows that aren't printed: they count.
use Rattle.std.specs.Prelude.{List, []}
use Rattle.std.specs.List.{flat_map}
use Rattle.definition_inline.specs.LabelMatch.{first_match, normal_label}
use Rattle.definition_page.specs.InlinePieces.{Meaning, count_at}
use Rattle.definition_page.specs.Pieces.{Piece}
use Rattle.inline_rows.specs.InlineRows.{InlineRow, CallRow}

-- a row that is a call
abbrev pub row_counts : Meaning → InlineRow → List Piece
row_counts meaning (CallRow label) = count_at (first_match label meaning.footnotes) (normal_label label)
row_counts meaning row = []

-- the calls among rows
abbrev pub rows_counts : Meaning → List InlineRow → List Piece
rows_counts meaning rows = flat_map (row_counts meaning) rows
