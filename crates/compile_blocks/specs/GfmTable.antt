-- The cells of a row, as they are printed one by one.
use Rattle.std.specs.Prelude.{ℕ, List, ◌++◌, map, Option, None, Some}
use Rattle.std.specs.List.{flat_map}
use Rattle.markdown_options.specs.declared.align_kind.AlignKind.{AlignKind}
use Rattle.engine_events.specs.declared.event.Name.TheVariants as n
use Rattle.definition_inline.specs.CharacterReference.{Names}
use Rattle.definition_inline.specs.Inline.{Inlines, Nil}
use Rattle.definition_page.specs.GfmTable.{TableRow, endings_pieces, body_row_pieces}
use Rattle.definition_page.specs.InlinePieces.{Meaning}
use Rattle.definition_page.specs.Pieces.{Piece}
use Rattle.event_grammar.specs.Trees.{Node, Nodes}
use Rattle.event_meaning.specs.Children.{child, children, kids_in, after_child, before_child}
use Rattle.event_meaning.specs.GfmTable.{cell_of, row_of, rows_of, endings_in, endings_before_row}

module _ (names : Names) (bytes : List ℕ) where
  -- the cells among these
  abbrev pub cells_in : Nodes → List Inlines
  cells_in ns = map (cell_of names bytes) (children n.GfmTableCell ns)

  abbrev pub cell_or_none : Option Node → Inlines
  cell_or_none None = Nil
  cell_or_none (Some cell) = cell_of names bytes cell

  -- the next cell among these, or an empty one where it is missing
  abbrev pub next_cell : Nodes → Inlines
  next_cell ns = cell_or_none (child n.GfmTableCell ns)

  -- the row of a head, with the endings before its row of delimiters
  abbrev pub head_row_of : Nodes → TableRow
  head_row_of head =
      row_of names bytes (kids_in n.GfmTableRow head) (endings_in names bytes (before_child n.GfmTableDelimiterRow (after_child n.GfmTableRow head)))

  -- the rows after another, each after the endings before it
  abbrev pub more_rows_pieces : Meaning → List AlignKind → Nodes → List Piece
  more_rows_pieces m aligns ns = endings_pieces (endings_before_row names bytes ns) ++ flat_map (body_row_pieces m aligns) (rows_of names bytes ns)
