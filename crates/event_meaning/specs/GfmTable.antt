-- Tables: the cells that events spell (GFM 4.10).
use Rattle.std.specs.Prelude.{ℕ, false, List, [], ◌∷◌, is_some, if◌then◌else◌, map}
use Rattle.markdown_options.specs.declared.line_ending.LineEnding.{LineEnding}
use Rattle.engine_events.specs.declared.event.Name.TheVariants as n
use Rattle.engine_events.specs.Names.{same_name}
use Rattle.definition_inline.specs.CharacterReference.{Names}
use Rattle.definition_inline.specs.Inline.{Inlines}
use Rattle.definition_page.specs.GfmTable.{Table, TableRow, in_cell}
use Rattle.event_check.specs.Align.{table_align}
use Rattle.event_grammar.specs.InGrammar.{node_name, kids_of}
use Rattle.event_grammar.specs.Trees.{Node, Nodes, Nil, Cons}
use Rattle.event_meaning.specs.Children.{child, children, kids_in, after_child, before_child, text_of}
use Rattle.event_meaning.specs.Raw.{ending_of}
use Rattle.event_meaning.specs.Texts.{text_within}

module _ (names : Names) (bytes : List ℕ) where
  abbrev pub cell_of : Node → Inlines
  cell_of cell = in_cell (text_within names bytes false (kids_of cell))

  -- the cells of a row, and these endings after it
  abbrev pub row_of : Nodes → List LineEnding → TableRow
  row_of kids endings = record { cells = map cell_of (children n.GfmTableCell kids); endings = endings }

  -- the endings among these
  abbrev pub endings_in : Nodes → List LineEnding
  endings_in ns = map (λ node. ending_of (text_of bytes node)) (children n.LineEnding ns)

  -- the endings before the next row, if there is one
  abbrev pub endings_before_row : Nodes → List LineEnding
  endings_before_row ns = if is_some (child n.GfmTableRow ns) then endings_in (before_child n.GfmTableRow ns) else []

  -- the rows of a body, each with the endings before the next
  abbrev pub rows_of : Nodes → List TableRow
  rows_of Nil = []
  rows_of (Cons node ns) =
      if same_name (node_name node) n.GfmTableRow then row_of (kids_of node) (endings_before_row ns) ∷ rows_of ns else rows_of ns

  abbrev pub table_of : Nodes → Table
  table_of kids =
      let head = kids_in n.GfmTableHead kids in
      record {
        aligns = table_align head;
        head = row_of (kids_in n.GfmTableRow head) (endings_in (before_child n.GfmTableDelimiterRow (after_child n.GfmTableRow head)));
        endings = endings_in (before_child n.GfmTableBody (after_child n.GfmTableHead kids));
        rows = rows_of (kids_in n.GfmTableBody kids);
      }
