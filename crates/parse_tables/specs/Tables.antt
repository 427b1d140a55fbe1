-- What is written of the head and the body of a table (GFM 4.10).
use Rattle.std.specs.Prelude.{◌≡◌, ℕ, List, [], ◌∷◌, Option, Some, map}
use Rattle.markdown_options.specs.declared.align_kind.AlignKind.{AlignKind}
use Rattle.markdown_options.specs.declared.line_ending.LineEnding.{LineEnding}
use Rattle.definition_text.specs.BlockLines.{BlockLine, last_ending_or}
use Rattle.definition_text.specs.Columns.{bare, block_codes, bytes_of}
use Rattle.definition_block.specs.GfmTable.{delimiters}
use Rattle.definition_page.specs.Read.{Reading}
use Rattle.engine_events.specs.declared.event.Name.TheVariants as n
use Rattle.event_check.specs.Align.{value_align}
use Rattle.event_grammar.specs.declared.slot.Between.TheVariants.{Lines}
use Rattle.event_grammar.specs.declared.slot.Form.TheVariants.{Plain}
use Rattle.event_grammar.specs.InGrammar.{kids_of, node_name}
use Rattle.event_grammar.specs.References.{named}
use Rattle.event_grammar.specs.Trees.{Node, Nodes, Nil, Cons}
use Rattle.parse_output.specs.Forest.{append, one}
use Rattle.parse_output.specs.Written.{IsInOrder}
use Rattle.parse_slots.specs.Left.{IsFilled}
use Rattle.parse_laid.specs.Leaves.{AreTaken, IsRowLine}
use Rattle.parse_laid.specs.Places.{LineRest, Between, Within, InAll, prefixed}
use Rattle.parse_lines.specs.declared.walk.Walk.{Walk}
use Rattle.parse_lines.specs.Ends.{IsWrittenToRest}
use Rattle.parse_lines.specs.Quiet.{AreQuiet}
use Rattle.parse_lines.specs.Standing.{StandsAt, around, standing}
use Rattle.parse_tables.specs.Before.{IsBefore, WritesTo}
use Rattle.parse_tables.specs.Rows.{AreOnNextLine, AreRowNodes, HoldSame, IsRowNode}

-- the node of a head: the row of its line, and on the next line the row of delimiters, which aligns columns so
pub record IsHeadNode (r : Reading) (text : List ℕ) (line : BlockLine) (ending : Option LineEnding) (columns : List AlignKind) (node : Node) : Type 0 where
  pub name : node_name node ≡ n.GfmTableHead
  pub row : Node
  pub is_row : IsRowNode r text line row
  pub others : Nodes
  pub kids : kids_of node ≡ Cons row others
  pub space : Nodes
  pub are_quiet : AreQuiet space
  pub delimiters : Node
  pub delimiters_name : node_name delimiters ≡ n.GfmTableDelimiterRow
  pub delimiters_filled : IsFilled Lines Plain delimiters
  pub on_next : AreOnNextLine text ending (append space (one delimiters)) others
  pub aligns : map value_align (named n.GfmTableDelimiterCellValue (one delimiters)) ≡ columns
  pub definitions : named n.Definition (one delimiters) ≡ []

-- the head is written
pub record WritesHead {A : Type 0} (r : Reading) (text : List ℕ) (line : BlockLine) (before : Option LineEnding) (columns : List AlignKind)
    (ending : Option LineEnding) (left : List LineRest) (old new : Walk A) : Type 0 where
  pub node : Node
  pub is_head : IsHeadNode r text line before columns node
  pub writes : WritesTo text [] ending left (one node) old new

-- so it is where its line is what is left of the one that is begun, and the row of delimiters is on the next
abbrev pub WritesHeadHere : {A : Type 0} → Reading → BlockLine → Walk A → Walk A → Type 0
WritesHeadHere r line old new =
    (text : List ℕ) (here next row : LineRest) (left : List LineRest) (columns : List AlignKind)
    → StandsAt text (Within here (next ∷ left)) (standing old) → IsWrittenToRest old → IsInOrder text old.out → line.codes ≡ block_codes here.rest
    → prefixed old.on.now (around (standing old)) next ≡ InAll row → delimiters (bytes_of (bare row.rest)) ≡ Some columns
    → WritesHead r text line here.beside.ending columns row.beside.ending left old new

-- nodes are the body of a table on the next line, or nothing where it has no rows
abbrev pub AreBody : Reading → List ℕ → Option LineEnding → List BlockLine → Nodes → Type 0
AreBody r text ending [] ns = ns ≡ Nil
AreBody r text ending (line ∷ others) ns =
    (body : Node) × (row : Node) × (more : Nodes) × AreOnNextLine text ending (one body) ns × (node_name body ≡ n.GfmTableBody)
    × (kids_of body ≡ Cons row more) × IsRowNode r text line row × AreRowNodes r text line.ending others more

-- the body is written
pub record WritesBody {A : Type 0} (r : Reading) (text : List ℕ) (ending : Option LineEnding) (taken : List BlockLine) (after : List LineRest)
    (old new : Walk A) : Type 0 where
  pub nodes : Nodes
  pub are_body : AreBody r text ending taken nodes
  pub writes : WritesTo text [] (last_ending_or ending taken) after nodes old new

-- so it is where the lines of its rows come next
abbrev pub WritesBodyHere : {A : Type 0} → Reading → List BlockLine → Walk A → Walk A → Type 0
WritesBodyHere r rows old new =
    (text : List ℕ) (ending : Option LineEnding) (left after : List LineRest) (taken : List BlockLine) → HoldSame rows taken
    → IsBefore text [] ending left old
    → AreTaken old.on.now (around (standing old)) (IsRowLine old.on.now) taken (Between left) (Between after)
    → WritesBody r text ending taken after old new
