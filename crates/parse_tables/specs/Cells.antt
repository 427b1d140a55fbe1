-- What is written of the cells of a table (GFM 4.10).
use Rattle.std.specs.Prelude.{◌≡◌, ℕ, false, List, [], ◌∷◌, ◌++◌, Option, map}
use Rattle.std.specs.List.{AllZip}
use Rattle.markdown_options.specs.declared.configuration.Constructs.{Constructs}
use Rattle.markdown_options.specs.declared.line_ending.LineEnding.{LineEnding}
use Rattle.definition_text.specs.Columns.{bytes_of}
use Rattle.definition_block.specs.GfmTable.{Cell}
use Rattle.definition_inline.specs.CharacterReference.{Names}
use Rattle.definition_page.specs.GfmTable.{in_cell}
use Rattle.definition_page.specs.InlinePieces.{Meaning}
use Rattle.definition_page.specs.Read.{Reading, read_cell}
use Rattle.engine_events.specs.declared.event.Name.TheVariants as n
use Rattle.event_grammar.specs.declared.slot.Between.TheVariants.{Spaces}
use Rattle.event_grammar.specs.declared.slot.Child.TheVariants.{Either}
use Rattle.event_grammar.specs.declared.slot.Form.TheVariants.{Plain}
use Rattle.event_grammar.specs.declared.slot.Slot.{Slot}
use Rattle.event_grammar.specs.declared.slot.Slot.TheVariants.{Many}
use Rattle.event_grammar.specs.Grammar.{row}
use Rattle.event_grammar.specs.InGrammar.{node_name}
use Rattle.event_grammar.specs.Trees.{Node, Nodes}
use Rattle.event_meaning.specs.Children.{children}
use Rattle.event_meaning.specs.GfmTable.{cell_of}
use Rattle.event_meaning.specs.Texts.{text_within}
use Rattle.parse_output.specs.Forest.{one}
use Rattle.parse_slots.specs.Left.{Fill, IsFilled}
use Rattle.parse_references.specs.Sound.{AreSound, IsSound}
use Rattle.parse_alike.specs.Inline.{ArePartsAlike}
use Rattle.parse_alike.specs.Meanings.{AreMeanings}
use Rattle.parse_laid.specs.Places.{LineRest}
use Rattle.parse_lines.specs.declared.walk.Walk.{Walk}
use Rattle.parse_links.specs.Tails.{FillsTo, MayEnd}
use Rattle.parse_tables.specs.Before.{AreInRow, IsBefore, WritesTo}
use Rattle.parse_tables.specs.LineCells.{AreCellsOf, after_first_bar}

-- a row of the grammar for cells and bars
abbrev pub cells_row : List Slot
cells_row = Many (Either n.GfmTableCell n.GfmTableCellDivider) ∷ []

-- nodes are cells, bars and white space of a row
abbrev pub AreRowParts : Nodes → Type 0
AreRowParts nodes = Fill Spaces cells_row nodes cells_row

-- in a cell nodes are written that spell what the definition reads of it
pub record WritesInCell {A : Type 0} (r : Reading) (text : List ℕ) (c : Cell) (behind : List ℕ) (ending : Option LineEnding) (left : List LineRest)
    (old new : Walk A) : Type 0 where
  pub nodes : Nodes
  pub writes : WritesTo text behind ending left nodes old new
  pub spells : (m m' : Meaning) → AreMeanings r.parse.constructs r.tables.names m m'
      → ArePartsAlike m m' (read_cell r c) (in_cell (text_within r.tables.names text false nodes))
  pub in_row : AreInRow nodes
  pub fill : FillsTo (row n.GfmTableCell Plain) MayEnd Spaces nodes
  pub sound : AreSound r.parse.constructs r.tables.names text nodes

-- so they are where the walk is before the bytes of the cell
abbrev pub WritesInCellHere : {A : Type 0} → Reading → Cell → List ℕ → Walk A → Walk A → Type 0
WritesInCellHere r c bytes old new =
    (text behind : List ℕ) (ending : Option LineEnding) (left : List LineRest) → IsBefore text (bytes ++ behind) ending left old
    → WritesInCell r text c behind ending left old new

-- the event of a cell is written
pub record WritesCell {A : Type 0} (r : Reading) (text : List ℕ) (c : Cell) (behind : List ℕ) (ending : Option LineEnding) (left : List LineRest)
    (old new : Walk A) : Type 0 where
  pub node : Node
  pub name : node_name node ≡ n.GfmTableCell
  pub writes : WritesTo text behind ending left (one node) old new
  pub spells : (m m' : Meaning) → AreMeanings r.parse.constructs r.tables.names m m' → ArePartsAlike m m' (read_cell r c) (cell_of r.tables.names text node)
  pub in_row : AreInRow (one node)
  pub filled : IsFilled Spaces Plain node
  pub sound : IsSound r.parse.constructs r.tables.names text node

abbrev pub WritesCellHere : {A : Type 0} → Reading → Cell → Walk A → Walk A → Type 0
WritesCellHere r c old new =
    (text behind : List ℕ) (ending : Option LineEnding) (left : List LineRest) → IsBefore text (bytes_of c.codes ++ behind) ending left old
    → WritesCell r text c behind ending left old new

-- ---- the bar before the first cell

-- nodes are written, in which no cell is
pub record WritesNoCell {A : Type 0} (text behind : List ℕ) (ending : Option LineEnding) (left : List LineRest) (old new : Walk A) : Type 0 where
  pub nodes : Nodes
  pub writes : WritesTo text behind ending left nodes old new
  pub no_cell : children n.GfmTableCell nodes ≡ []
  pub in_row : AreInRow nodes
  pub fill : AreRowParts nodes
  pub sound : (on : Constructs) (names : Names) → AreSound on names text nodes

-- a bar that only white space is before is written with that, where the walk is before bytes of a line
abbrev pub WritesFirstBar : {A : Type 0} → List ℕ → Walk A → Walk A → Type 0
WritesFirstBar bytes old new =
    (text : List ℕ) (ending : Option LineEnding) (left : List LineRest) → IsBefore text bytes ending left old
    → WritesNoCell text (after_first_bar bytes) ending left old new

-- ---- cells of a row, one after another

-- the cells among nodes spell what the definition reads of these
abbrev pub SpellCells : Reading → List ℕ → List Cell → Nodes → Type 0
SpellCells r text cs nodes =
    (m m' : Meaning) → AreMeanings r.parse.constructs r.tables.names m m'
    → AllZip (ArePartsAlike m m') (map (read_cell r) cs) (map (cell_of r.tables.names text) (children n.GfmTableCell nodes))

-- of these cells, all before the last ones are written with their bars, and the bytes of the last ones are ahead
pub record WritesFirstCells {A : Type 0} (r : Reading) (text : List ℕ) (cs last : List Cell) (ending : Option LineEnding) (left : List LineRest)
    (old new : Walk A) : Type 0 where
  pub done : List Cell
  pub all : cs ≡ done ++ last
  pub behind : List ℕ
  pub ahead : AreCellsOf last behind
  pub nodes : Nodes
  pub writes : WritesTo text behind ending left nodes old new
  pub spell : SpellCells r text done nodes
  pub in_row : AreInRow nodes
  pub fill : AreRowParts nodes
  pub sound : AreSound r.parse.constructs r.tables.names text nodes

-- so they are where the walk is before the bytes of the cells
abbrev pub WritesFirstCellsHere : {A : Type 0} → Reading → List Cell → List Cell → Walk A → Walk A → Type 0
WritesFirstCellsHere r cs last old new =
    (text bytes : List ℕ) (ending : Option LineEnding) (left : List LineRest) → AreCellsOf cs bytes → IsBefore text bytes ending left old
    → WritesFirstCells r text cs last ending left old new
