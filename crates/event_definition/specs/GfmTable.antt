-- Tables (GFM 4.10).
use Rattle.std.specs.Prelude.{ℕ, suc, zero, ◌+◌, Bool, if◌then◌else◌, ◌==◌, ◌||◌, List, [], ◌∷◌, None, drop, length, map, slice_index, take}
use Rattle.std.specs.List.{prefix_len}
use Rattle.markdown_options.specs.declared.beside.Kind.{Kind}
use Rattle.markdown_options.specs.declared.beside.Kind.TheVariants.{Punctuation, Whitespace, Other}
use Rattle.definition_text.specs.Ascii.{colon, hyphen, vertical_bar}
use Rattle.definition_text.specs.BlockLines.{BlockLine}
use Rattle.definition_text.specs.Columns.{Code, bare, bytes_of, code_byte, is_blank, is_tab_column, is_white}
use Rattle.definition_text.specs.InlineCode.{with_kinds}
use Rattle.definition_inline.specs.Scan.{inlines}
use Rattle.definition_block.specs.Container.{Container}
use Rattle.definition_block.specs.GfmTable.{Cell, line_cells}
use Rattle.definition_page.specs.GfmTable.{body_lines, head_line}
use Rattle.definition_page.specs.Read.{Reading, context_of}
use Rattle.engine_events.specs.declared.event.Name.{Name}
use Rattle.engine_events.specs.declared.event.Name.TheVariants as n
use Rattle.event_definition.specs.Pieces.{Pieces, Nil, around, grouped, join, join_all, token}
use Rattle.event_definition.specs.Context.{names_of, on_of}
use Rattle.event_definition.specs.Containers.{next_line}
use Rattle.event_definition.specs.Inlines.{content_pieces}
use Rattle.event_definition.specs.Written.{Left, Written, and_then, first_white, inside, line_written, rest_of, white, white_ahead, written}

-- ---- cells

-- the text of a cell after white space
abbrev pub cell_text : Reading → Cell → List Code → Pieces
cell_text r c bytes =
    let content = with_kinds r.tables.is_punctuation None c.before c.after (map code_byte c.codes) in
    around n.GfmTableCellText (join (white_ahead bytes) (content_pieces (on_of r) (names_of r) (inlines (context_of r) content) (bare bytes)))

-- the text of a cell, or white space
abbrev pub cell_pieces : Reading → Cell → List Code → Pieces
cell_pieces r c bytes = around n.GfmTableCell (if is_blank bytes then token n.SpaceOrTab bytes else cell_text r c bytes)

-- the bar after a cell, if there is one
abbrev pub bar_after : Kind → List Code
bar_after Punctuation = vertical_bar ∷ []
bar_after Whitespace = []
bar_after Other = []

-- the bytes of a cell: columns of a tab before it are none of them
abbrev pub cell_bytes : List Code → List Code
cell_bytes cs = drop (prefix_len is_tab_column cs) cs

-- cells, each with the bar after it
abbrev pub cells_pieces : Reading → List Cell → Pieces
cells_pieces r [] = Nil
cells_pieces r (c ∷ cs) = join_all (cell_pieces r c (cell_bytes c.codes) ∷ token n.GfmTableCellDivider (bar_after c.after) ∷ cells_pieces r cs ∷ [])

-- how many bytes cells and their bars have
abbrev pub cells_size : List Cell → ℕ
cells_size [] = 0
cells_size (c ∷ cs) = length (cell_bytes c.codes) + length (bar_after c.after) + cells_size cs

-- ---- rows

-- a bar before the first cell, with the white space before it
abbrev pub first_bar : List Code → List Code
first_bar bytes = if slice_index (bare bytes) 0 == vertical_bar then take 1 (bare bytes) else []

abbrev pub first_bar_pieces : List Code → Pieces
first_bar_pieces bytes =
    if length (first_bar bytes) == 0 then Nil else join (white_ahead bytes) (token n.GfmTableCellDivider (first_bar bytes))

abbrev pub first_bar_size : List Code → ℕ
first_bar_size bytes = if length (first_bar bytes) == 0 then 0 else length (first_white bytes) + 1

-- a row: a bar, cells, and white space; columns of a tab before it are apart
abbrev pub row_pieces : Reading → BlockLine → Pieces
row_pieces r line =
    let bytes = bytes_of line.codes in
    around n.GfmTableRow (join_all (
    token n.SpaceOrTab (take (prefix_len is_tab_column line.codes) line.codes) ∷ first_bar_pieces bytes ∷ cells_pieces r (line_cells line)
    ∷ token n.SpaceOrTab (drop (first_bar_size bytes + cells_size (line_cells line)) bytes) ∷ []
    ))

abbrev pub row_written : Reading → BlockLine → Left → Written
row_written r line left = line_written (row_pieces r line) left

-- ---- the row of delimiters

abbrev pub is_delimiter : Code → Bool
is_delimiter c = (c == colon) || (c == hyphen)

abbrev pub delimiter_name : Code → Name
delimiter_name c = if c == colon then n.GfmTableDelimiterMarker else n.GfmTableDelimiterFiller

-- dashes, with colons or not
abbrev pub delimiter_cell : List Code → Pieces
delimiter_cell bytes = around n.GfmTableDelimiterCell (around n.GfmTableDelimiterCellValue (grouped delimiter_name bytes))

-- bars, white space and delimiters, of which there are at most so many
abbrev pub delimiter_pieces : ℕ → List Code → Pieces
delimiter_pieces zero bytes = Nil
delimiter_pieces (suc most) [] = Nil
delimiter_pieces (suc most) (c ∷ cs) =
    if c == vertical_bar then join (token n.GfmTableCellDivider (c ∷ [])) (delimiter_pieces most cs)
    else (if is_white c then join (white_ahead (c ∷ cs)) (delimiter_pieces most (bare (c ∷ cs)))
    else (let size = prefix_len is_delimiter (c ∷ cs) in join (delimiter_cell (take size (c ∷ cs))) (delimiter_pieces most (drop size (c ∷ cs)))))

abbrev pub delimiters_written : Left → Written
delimiters_written left =
    and_then (white left) (λ l. let bytes = bytes_of (rest_of l) in
    line_written (around n.GfmTableDelimiterRow (delimiter_pieces (length bytes) bytes)) l)

-- ---- tables

-- the first row, and the row of delimiters below it
abbrev pub head_written : Reading → List Container → BlockLine → Left → Written
head_written r outer line left =
    inside n.GfmTableHead (and_then (row_written r line left) (λ l. and_then (next_line (on_of r) outer l) delimiters_written))

-- more rows, each on a line of its own
abbrev pub rows_written : Reading → List Container → List BlockLine → Left → Written
rows_written r outer [] left = written Nil left
rows_written r outer (line ∷ ls) left = and_then (and_then (next_line (on_of r) outer left) (row_written r line)) (rows_written r outer ls)

-- the body, if there are rows
abbrev pub body_written : Reading → List Container → List BlockLine → Left → Written
body_written r outer [] left = written Nil left
body_written r outer (line ∷ ls) left =
    and_then (next_line (on_of r) outer left) (λ l. inside n.GfmTableBody (and_then (row_written r line l) (rows_written r outer ls)))

abbrev pub table_written : Reading → List Container → List BlockLine → Left → Written
table_written r outer ls left = inside n.GfmTable (and_then (head_written r outer (head_line ls) left) (body_written r outer (body_lines ls)))
