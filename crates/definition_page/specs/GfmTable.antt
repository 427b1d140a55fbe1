-- Tables of a page, and what they print (GFM 4.10).
use Rattle.std.specs.Prelude.{ℕ, Bool, if◌then◌else◌, ◌==◌, ◌&&◌, List, [], ◌∷◌, ◌++◌, None, codes, drop, map, slice_index, slice_index_or, unwrap_or}
use Rattle.std.specs.List.{flat_map}
use Rattle.markdown_options.specs.LineEndings.{ending_bytes}
use Rattle.markdown_options.specs.declared.line_ending.LineEnding.{LineEnding}
use Rattle.definition_text.specs.Ascii.{backslash, vertical_bar}
use Rattle.definition_text.specs.BlockLines.{BlockLine, spaced_line}
use Rattle.definition_inline.specs.Inline.{InlineLeaf, Code, Math, Inline, Leaf, Span, Linked, Call, Inlines, Nil, Cons}
use Rattle.markdown_options.specs.declared.align_kind.AlignKind.{AlignKind}
use Rattle.markdown_options.specs.declared.align_kind.AlignKind.TheVariants as align
use Rattle.definition_block.specs.GfmTable.{delimiters}
use Rattle.definition_page.specs.Tags.{Words, Attribute, attribute, tag, bare_tag}
use Rattle.definition_page.specs.Pieces.{Piece, Says, Fresh}
use Rattle.definition_page.specs.InlinePieces.{Meaning, element, inline_counts, inline_pieces}

-- a row: its cells, and the endings after it: that of its line, or none after the last row
pub record TableRow : Type 0 where
  pub cells : List Inlines
  pub endings : List LineEnding

-- a table: how its columns are aligned, its head, the endings after its row of delimiters, and the rows of its body
pub record Table : Type 0 where
  pub aligns : List AlignKind
  pub head : TableRow
  pub endings : List LineEnding
  pub rows : List TableRow

-- ---- the lines of a table: the head, the row of delimiters, and the rows of the body

abbrev pub line_at : ℕ → List BlockLine → BlockLine
line_at place ls = slice_index_or ls place (spaced_line [] None)

abbrev pub head_line : List BlockLine → BlockLine
head_line ls = line_at 0 ls

abbrev pub delimiter_line : List BlockLine → BlockLine
delimiter_line ls = line_at 1 ls

abbrev pub body_lines : List BlockLine → List BlockLine
body_lines ls = drop 2 ls

-- how the columns of a table are aligned, by its row of delimiters
abbrev pub line_aligns : BlockLine → List AlignKind
line_aligns line = unwrap_or (delimiters line.codes) []

-- ---- code in cells

-- a backslash right before a bar, by that byte and those after it
abbrev pub escapes_bar : ℕ → List ℕ → Bool
escapes_bar c cs = (c == backslash) && (slice_index cs 0 == vertical_bar)

-- the code of a cell: a bar stands in it without the backslash right before it
abbrev pub cell_code : List ℕ → List ℕ
cell_code [] = []
cell_code (c ∷ cs) = if escapes_bar c cs then cell_code cs else c ∷ cell_code cs

-- a leaf as it stands in a cell
abbrev pub leaf_in_cell : InlineLeaf → InlineLeaf
leaf_in_cell (Code text) = Code (cell_code text)
leaf_in_cell (Math text) = Math (cell_code text)
leaf_in_cell other = other

-- inline structure as it stands in a cell
abbrev mutual
  pub part_in_cell : Inline → Inline
  part_in_cell (Leaf part) = Leaf (leaf_in_cell part)
  part_in_cell (Span kind kids) = Span kind (in_cell kids)
  part_in_cell (Linked kind target kids) = Linked kind target (in_cell kids)
  part_in_cell (Call label) = Call label

  pub in_cell : Inlines → Inlines
  in_cell Nil = Nil
  in_cell (Cons i is) = Cons (part_in_cell i) (in_cell is)

-- ---- pieces

-- the attribute of a cell in a column that is aligned
abbrev pub align_attributes : AlignKind → List Attribute
align_attributes align.Left = attribute (codes "align") (codes "left") ∷ []
align_attributes align.Right = attribute (codes "align") (codes "right") ∷ []
align_attributes align.Center = attribute (codes "align") (codes "center") ∷ []
align_attributes align.None = []

-- a cell of a head or of a body, by the name of its tag
abbrev pub cell_pieces : Meaning → List ℕ → AlignKind → Inlines → List Piece
cell_pieces m name align is = Fresh ∷ element (tag name (align_attributes align)) (inline_pieces m is)

-- the cells of a row, one for each column: those that are missing are empty, and more aren't printed, but the calls of footnotes in them count
abbrev pub cells_pieces : Meaning → List ℕ → List AlignKind → List Inlines → List Piece
cells_pieces m name [] cells = flat_map (inline_counts m) cells
cells_pieces m name (align ∷ aligns) [] = cell_pieces m name align Nil ++ cells_pieces m name aligns []
cells_pieces m name (align ∷ aligns) (c ∷ cs) = cell_pieces m name align c ++ cells_pieces m name aligns cs

abbrev pub row_pieces : Meaning → List ℕ → List AlignKind → TableRow → List Piece
row_pieces m name aligns row = Fresh ∷ element (bare_tag (codes "tr")) (cells_pieces m name aligns row.cells ++ Fresh ∷ [])

-- an ending as it is
abbrev pub ending_piece : LineEnding → Piece
ending_piece ending = Says (Words (ending_bytes ending))

abbrev pub endings_pieces : List LineEnding → List Piece
endings_pieces endings = map ending_piece endings

-- a row of the body, with its endings
abbrev pub body_row_pieces : Meaning → List AlignKind → TableRow → List Piece
body_row_pieces m aligns row = row_pieces m (codes "td") aligns row ++ endings_pieces row.endings

-- the head, with its endings
abbrev pub head_pieces : Meaning → List AlignKind → TableRow → List Piece
head_pieces m aligns head = element (bare_tag (codes "thead")) (row_pieces m (codes "th") aligns head ++ endings_pieces head.endings ++ Fresh ∷ [])

-- the body, if there is one, after the endings of the row of delimiters
abbrev pub body_pieces : Meaning → List AlignKind → List LineEnding → List TableRow → List Piece
body_pieces m aligns endings [] = []
body_pieces m aligns endings (row ∷ rows) =
    endings_pieces endings ++ element (bare_tag (codes "tbody")) (flat_map (body_row_pieces m aligns) (row ∷ rows) ++ Fresh ∷ [])

abbrev pub table_pieces : Meaning → Table → List Piece
table_pieces m t =
    Fresh ∷ element (bare_tag (codes "table")) (Fresh ∷ head_pieces m t.aligns t.head ++ body_pieces m t.aligns t.endings t.rows ++ Fresh ∷ [])
