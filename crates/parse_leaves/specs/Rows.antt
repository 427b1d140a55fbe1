-- What is written of the row of a block that holds no other (CommonMark 4).
use Rattle.std.specs.Prelude.{◌≡◌, Bool, false, List, [], length}
use Rattle.text_pieces.specs.ParagraphLines.{AreLines}
use Rattle.inline_content.specs.Lines.{AreContentLines}
use Rattle.definition_text.specs.BlockLines.{BlockLine}
use Rattle.definition_block.specs.Tree.{Definition, FencedCode, Leaf, Table}
use Rattle.definition_page.specs.Read.{Reading}
use Rattle.block_rows.specs.Rows.{BlockRow, Single, row_size}
use Rattle.block_rows.specs.declared.row.Row.{Row}
use Rattle.block_rows.specs.declared.row.Row.TheVariants as row
use Rattle.parse_lines.specs.declared.walk.Walk.{Walk}
use Rattle.parse_leaves.specs.Definition.{WritesReadDefinition}
use Rattle.parse_raw.specs.Laid.{WritesReadUnclosed}
use Rattle.parse_raw.specs.Reads.{WritesReadLeaf}

-- lines as a paragraph or a heading has them
abbrev pub AreOfRow : Row → List BlockLine → Type 0
AreOfRow (row.Paragraph count) ls = AreLines ls
AreOfRow (row.Heading rank) ls = AreContentLines ls
AreOfRow (row.SetextHeading rank count) ls = AreContentLines ls
AreOfRow r ls = Unit {0}

-- the lines that a row takes
pub record AreLinesOf (r : Row) (ls : List BlockLine) : Type 0 where
  pub size : length ls ≡ row_size r
  pub lines : AreOfRow r ls

-- The leaf of a row is written. Nothing is said of tables.
abbrev pub WritesRow : {A : Type 0} → Reading → Bool → BlockRow → Walk A → Walk A → Type 0
WritesRow r first (Single (Leaf (Table ls))) old new = Unit {0}
WritesRow r first (Single (Leaf (Definition ls label destination title))) old new =
    WritesReadDefinition r (Definition ls label destination title) old new
WritesRow r first (Single (Leaf (FencedCode info false ls))) old new = WritesReadUnclosed r first (FencedCode info false ls) old new
WritesRow r first (Single (Leaf leaf)) old new = WritesReadLeaf r first leaf [] old new
WritesRow r first b old new = Unit {0}
