-- What is written of the rows of a table (GFM 4.10).
use Rattle.std.specs.Prelude.{◌≡◌, ℕ, List, [], ◌∷◌, ◌++◌, Option}
use Rattle.std.specs.List.{AllZip}
use Rattle.markdown_options.specs.declared.line_ending.LineEnding.{LineEnding}
use Rattle.definition_text.specs.BlockLines.{BlockLine, last_ending_or}
use Rattle.definition_text.specs.Columns.{block_codes}
use Rattle.definition_block.specs.GfmTable.{line_cells}
use Rattle.definition_page.specs.Read.{Reading}
use Rattle.engine_events.specs.declared.event.Name.TheVariants as n
use Rattle.event_grammar.specs.declared.slot.Between.TheVariants.{Lines}
use Rattle.event_grammar.specs.declared.slot.Form.TheVariants.{Plain}
use Rattle.event_grammar.specs.InGrammar.{kids_of, node_name}
use Rattle.event_grammar.specs.Trees.{Node, Nodes, Nil, Cons}
use Rattle.parse_output.specs.Forest.{append, one}
use Rattle.parse_output.specs.Written.{IsInOrder}
use Rattle.parse_slots.specs.Left.{IsFilled}
use Rattle.parse_references.specs.Sound.{IsSound}
use Rattle.parse_laid.specs.Leaves.{AreTaken, IsRowLine}
use Rattle.parse_laid.specs.Places.{LineRest, Between, Within, InAll, prefixed}
use Rattle.parse_lines.specs.declared.walk.Walk.{Walk}
use Rattle.parse_lines.specs.Ends.{IsWrittenToRest}
use Rattle.parse_lines.specs.Quiet.{AreQuiet}
use Rattle.parse_lines.specs.Standing.{StandsAt, around, standing}
use Rattle.parse_raw.specs.Laid.{AreEnding}
use Rattle.parse_tables.specs.Before.{AreInRow, IsBefore, WritesTo}
use Rattle.parse_tables.specs.Cells.{SpellCells}

-- ---- one row

-- the node of a row, whose cells are those of a line
pub record IsRowNode (r : Reading) (text : List ℕ) (line : BlockLine) (node : Node) : Type 0 where
  pub name : node_name node ≡ n.GfmTableRow
  pub spell : SpellCells r text (line_cells line) (kids_of node)
  pub in_row : AreInRow (one node)
  pub filled : IsFilled Lines Plain node
  pub sound : IsSound r.parse.constructs r.tables.names text node

-- the row of a line is written
pub record WritesRowNode {A : Type 0} (r : Reading) (text : List ℕ) (line : BlockLine) (ending : Option LineEnding) (left : List LineRest) (old new : Walk A)
    : Type 0 where
  pub node : Node
  pub is_row : IsRowNode r text line node
  pub writes : WritesTo text [] ending left (one node) old new

-- so it is where the line is what is left of the one that is begun
abbrev pub WritesRowHere : {A : Type 0} → Reading → BlockLine → Walk A → Walk A → Type 0
WritesRowHere r line old new =
    (text : List ℕ) (here : LineRest) (left : List LineRest) → StandsAt text (Within here left) (standing old) → IsWrittenToRest old
    → IsInOrder text old.out → line.codes ≡ block_codes here.rest → WritesRowNode r text line here.beside.ending left old new

-- ---- rows on the lines after one that is written

-- nodes are the ending of a line, nodes that spell nothing, and then these
pub record AreOnNextLine (text : List ℕ) (ending : Option LineEnding) (others ns : Nodes) : Type 0 where
  pub ends : Nodes
  pub are_ending : AreEnding text n.LineEnding ending ends
  pub quiet : Nodes
  pub are_quiet : AreQuiet quiet
  pub all : ns ≡ append ends (append quiet others)

-- nodes are the rows of lines, each after the ending of the line before it; the first is after this ending
abbrev pub AreRowNodes : Reading → List ℕ → Option LineEnding → List BlockLine → Nodes → Type 0
AreRowNodes r text ending [] ns = ns ≡ Nil
AreRowNodes r text ending (line ∷ others) ns =
    (node : Node) × (more : Nodes) × AreOnNextLine text ending (Cons node more) ns × IsRowNode r text line node × AreRowNodes r text line.ending others more

-- the row of the next line is written, after the ending of the line before it
pub record WritesNextRow {A : Type 0} (r : Reading) (text : List ℕ) (before : Option LineEnding) (line : BlockLine) (ending : Option LineEnding)
    (left : List LineRest) (old new : Walk A) : Type 0 where
  pub node : Node
  pub is_row : IsRowNode r text line node
  pub nodes : Nodes
  pub on_next : AreOnNextLine text before (one node) nodes
  pub writes : WritesTo text [] ending left nodes old new

abbrev pub WritesNextRowHere : {A : Type 0} → Reading → BlockLine → Walk A → Walk A → Type 0
WritesNextRowHere r line old new =
    (text : List ℕ) (before : Option LineEnding) (next here : LineRest) (left : List LineRest) → IsBefore text [] before (next ∷ left) old
    → prefixed old.on.now (around (standing old)) next ≡ InAll here → line.codes ≡ block_codes here.rest
    → WritesNextRow r text before line here.beside.ending left old new

-- lines that hold the same, but for their endings
abbrev pub HoldsSame : BlockLine → BlockLine → Type 0
HoldsSame line line' = (line.codes ≡ line'.codes) × (line.before ≡ line'.before)

abbrev pub HoldSame : List BlockLine → List BlockLine → Type 0
HoldSame ls ls' = AllZip HoldsSame ls ls'

-- of these lines of the text, all before the last ones are written, which hold the same as `last`
pub record WritesFirstRows {A : Type 0} (r : Reading) (text : List ℕ) (ending : Option LineEnding) (taken last : List BlockLine) (after : List LineRest)
    (old new : Walk A) : Type 0 where
  pub done : List BlockLine
  pub later : List BlockLine
  pub all : taken ≡ done ++ later
  pub same : HoldSame last later
  pub left : List LineRest
  pub ahead : AreTaken old.on.now (around (standing old)) (IsRowLine old.on.now) later (Between left) (Between after)
  pub nodes : Nodes
  pub writes : WritesTo text [] (last_ending_or ending done) left nodes old new
  pub are_rows : AreRowNodes r text ending done nodes

-- so they are where the lines of the rows come next
abbrev pub WritesFirstRowsHere : {A : Type 0} → Reading → List BlockLine → List BlockLine → Walk A → Walk A → Type 0
WritesFirstRowsHere r rows last old new =
    (text : List ℕ) (ending : Option LineEnding) (left after : List LineRest) (taken : List BlockLine) → HoldSame rows taken
    → IsBefore text [] ending left old
    → AreTaken old.on.now (around (standing old)) (IsRowLine old.on.now) taken (Between left) (Between after)
    → WritesFirstRows r text ending taken last after old new
