-- The rows and cells of a table, as they are printed one by one.
use Rattle.std.specs.Prelude.{ℕ, List, [], ◌∷◌, Option, None, Some, map}
use Rattle.std.specs.List.{flat_map}
use Rattle.markdown_options.specs.declared.align_kind.AlignKind.{AlignKind}
use Rattle.markdown_options.specs.declared.line_ending.LineEnding.{LineEnding}
use Rattle.definition_text.specs.BlockLines.{BlockLine}
use Rattle.definition_inline.specs.Inline.{Nil}
use Rattle.definition_block.specs.GfmTable as table
use Rattle.definition_page.specs.GfmTable.{cells_pieces, row_pieces, body_row_pieces, head_pieces, body_pieces}
use Rattle.definition_page.specs.InlinePieces.{inline_counts}
use Rattle.definition_page.specs.Read.{read_cell, ending_list, read_row}
use Rattle.text_pieces.specs.ParagraphLines.{HaveNoEnding}
use Rattle.block_cells.specs.declared.gfm_table.Cell.{Cell}
use Rattle.block_cells.specs.GfmTable.{cell_view}
use Rattle.html_bytes.specs.Document.{Document, reading_of, document_meaning}
use Rattle.html_bytes.specs.Pieces.{Piece, in_bytes}
use Rattle.html_leaves.specs.GfmTable.{cell_bytes}

-- the cell of a column, or an empty one where it is missing
abbrev pub next_cell_bytes : Document → List ℕ → AlignKind → Option Cell → List Piece
next_cell_bytes d name align None = cell_bytes d name align Nil
next_cell_bytes d name align (Some c) = cell_bytes d name align (read_cell (reading_of d) (cell_view c))

-- the cells of a row
abbrev pub cells_bytes : Document → List ℕ → List AlignKind → List table.Cell → List Piece
cells_bytes d name aligns cs = in_bytes (cells_pieces (document_meaning d) name aligns (map (read_cell (reading_of d)) cs))

-- the calls in cells that aren't printed: they count
abbrev pub counts_bytes : Document → List table.Cell → List Piece
counts_bytes d cs = in_bytes (flat_map (inline_counts (document_meaning d)) (map (read_cell (reading_of d)) cs))

-- ---- lines

abbrev pub row_bytes : Document → List ℕ → List AlignKind → BlockLine → List Piece
row_bytes d name aligns line = in_bytes (row_pieces (document_meaning d) name aligns (read_row (reading_of d) line))

-- the rows of a body, with their endings
abbrev pub rows_bytes : Document → List AlignKind → List BlockLine → List Piece
rows_bytes d aligns ls = in_bytes (flat_map (body_row_pieces (document_meaning d) aligns) (map (read_row (reading_of d)) ls))

abbrev pub head_bytes : Document → List AlignKind → BlockLine → List Piece
head_bytes d aligns line = in_bytes (head_pieces (document_meaning d) aligns (read_row (reading_of d) line))

abbrev pub body_bytes : Document → List AlignKind → Option LineEnding → List BlockLine → List Piece
body_bytes d aligns ending ls = in_bytes (body_pieces (document_meaning d) aligns (ending_list ending) (map (read_row (reading_of d)) ls))

-- ---- cells without a line ending

-- no line ending stands in a cell, if there is one
abbrev pub IsClearIf : Option Cell → Type 0
IsClearIf None = Unit {0}
IsClearIf (Some c) = HaveNoEnding (cell_view c).codes

-- nor in any of these cells
abbrev pub CellsAreClear : List table.Cell → Type 0
CellsAreClear [] = Unit {0}
CellsAreClear (c ∷ cs) = HaveNoEnding c.codes × CellsAreClear cs
