-- What stands in the cell of a table, or elsewhere.
use Rattle.std.specs.Prelude.{ℕ, suc, Bool, true, false, if◌then◌else◌, List, [], ◌∷◌}
use Rattle.definition_inline.specs.Inline.{InlineLeaf, Code, Math, Inlines}
use Rattle.definition_page.specs.GfmTable.{escapes_bar, cell_code, in_cell}
use Rattle.definition_page.specs.InlinePieces.{Meaning}
use Rattle.html_inline.specs.Printed.{PrintState, with_row}
use Rattle.inline_rows.specs.InlineRows.{InlineRow, Part, EnterSpan, EnterLinked, Leave, CallRow}

-- how many bytes stand before the first backslash that escapes a bar
abbrev pub bar_escape_at : List ℕ → ℕ
bar_escape_at [] = 0
bar_escape_at (c ∷ cs) = if escapes_bar c cs then 0 else suc (bar_escape_at cs)

-- inline structure in a cell or elsewhere
abbrev pub parts_in_cell : Bool → Inlines → Inlines
parts_in_cell true is = in_cell is
parts_in_cell false is = is

abbrev pub code_in_cell : Bool → List ℕ → List ℕ
code_in_cell true text = cell_code text
code_in_cell false text = text

-- a leaf in a cell or elsewhere
abbrev pub leaf_in : Bool → InlineLeaf → InlineLeaf
leaf_in cell (Code text) = Code (code_in_cell cell text)
leaf_in cell (Math text) = Math (code_in_cell cell text)
leaf_in cell other = other

-- the same for a row
abbrev pub row_in_cell : Bool → InlineRow → InlineRow
row_in_cell cell (Part part) = Part (leaf_in cell part)
row_in_cell cell (EnterSpan kind) = EnterSpan kind
row_in_cell cell (EnterLinked kind target) = EnterLinked kind target
row_in_cell cell Leave = Leave
row_in_cell cell (CallRow label) = CallRow label

abbrev pub row_printed_in : Bool → Meaning → PrintState → InlineRow → PrintState
row_printed_in cell meaning p r = with_row meaning p (row_in_cell cell r)
