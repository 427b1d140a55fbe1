-- What cells of a line stand for.
use Rattle.std.specs.Prelude.{ℕ, suc, Bool, false, if◌then◌else◌, ◌==◌, ◌||◌, List, [], ◌∷◌, Option, None, Some}
use Rattle.definition_text.specs.Ascii.{hyphen}
use Rattle.definition_text.specs.Columns.{Code, bare}
use Rattle.definition_text.specs.Content.{may_escape}
use Rattle.definition_block.specs.GfmTable as table
use Rattle.definition_block.specs.GfmTable.{cell, parts, is_bar, is_bar_or_colon, without_blank_last}
use Rattle.text_pieces.specs.declared.piece.Piece.{Piece}
use Rattle.text_pieces.specs.Pieces.{piece_line}
use Rattle.block_cells.specs.declared.gfm_table.Cell.{Cell}
use Rattle.block_cells.specs.declared.gfm_table.Cells.{Cells}

-- how many codes stand before the first bar that divides cells
abbrev pub bar_at : Bool → List ℕ → ℕ
bar_at escaped [] = 0
bar_at escaped (c ∷ cs) = if is_bar escaped c then 0 else suc (bar_at (may_escape escaped c) cs)

-- what a row of delimiters may begin with after its spaces and tabs: `-`, `|` or `:`
abbrev pub begins_delimiters : Code → Bool
begins_delimiters code = (code == hyphen) || is_bar_or_colon code

-- codes that begin with one of them
abbrev pub begins_row : List Code → Bool
begins_row [] = false
begins_row (code ∷ codes) = begins_delimiters code

-- a line with one of them after its spaces and tabs
abbrev pub may_be_delimiters : List Code → Bool
may_be_delimiters line = begins_row (bare line)

abbrev pub cell_view : Cell → table.Cell
cell_view c = cell (piece_line c.line).codes c.line.before c.after

-- the parts of a line, if there is one
abbrev pub parts_if : Option Piece → List table.Cell
parts_if None = []
parts_if (Some line) = parts line.before false (piece_line line).codes

-- the cells that are left
abbrev pub cells_left : Cells → List table.Cell
cells_left s = without_blank_last (parts_if s.rest)
