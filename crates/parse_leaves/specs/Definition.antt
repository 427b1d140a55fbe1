-- What is written of a link reference definition (CommonMark 4.7).
use Rattle.std.specs.Prelude.{◌≡◌, ◌≤◌, ◌+◌, ℕ, Bool, false, List, ◌++◌, length}
use Rattle.std.specs.List.{list_any}
use Rattle.markdown_options.specs.declared.configuration.Constructs.{Constructs}
use Rattle.definition_text.specs.Lines.{ends_line}
use Rattle.definition_block.specs.Definitions.{leaf_definitions}
use Rattle.definition_block.specs.Tree.{LeafBlock}
use Rattle.definition_inline.specs.CharacterReference.{Names}
use Rattle.definition_inline.specs.Definition.{Definition}
use Rattle.definition_page.specs.Page as page
use Rattle.definition_page.specs.Read.{Reading}
use Rattle.event_grammar.specs.declared.slot.Between.TheVariants.{Lines}
use Rattle.event_grammar.specs.declared.slot.Form.TheVariants.{Plain}
use Rattle.event_grammar.specs.Trees.{Node, Nodes}
use Rattle.parse_output.specs.Ends.{end_at}
use Rattle.parse_output.specs.Forest.{append, one}
use Rattle.parse_output.specs.Written.{IsInOrder, Writes}
use Rattle.parse_slots.specs.Left.{IsFilled}
use Rattle.parse_laid.specs.Laid.{IsWrittenLaid}
use Rattle.parse_laid.specs.Places.{LineRest, Place, Within}
use Rattle.parse_lines.specs.declared.walk.Walk.{Walk}
use Rattle.parse_lines.specs.Ends.{IsWrittenToRest, written_to}
use Rattle.parse_lines.specs.Quiet.{AreQuiet}
use Rattle.parse_lines.specs.Standing.{StandsAt, around, standing}
use Rattle.parse_lines.specs.Steps.{HasSameOpen}
use Rattle.parse_raw.specs.Written.{SpellsLeaf, node_end, node_start}

-- no line ends between two indices of a text
pub record IsOnOneLine (text : List ℕ) (from to : ℕ) : Type 0 where
  pub front : List ℕ
  pub between : List ℕ
  pub after : List ℕ
  pub parts : text ≡ front ++ (between ++ after)
  pub dark : list_any ends_line between ≡ false
  pub begins : from ≡ length front
  pub ends : to ≡ length front + length between

-- The node of a definition is written, before and after nodes that spell nothing: white space may follow it on its last line. The walk stands at the place
-- then, and all before the ending of its line is written.
pub record WritesDefinition {A : Type 0} (on : Constructs) (names : Names) (text : List ℕ) (top : Bool) (ds : List Definition) (to : Place) (old new : Walk A)
    : Type 0 where
  pub before : Nodes
  pub are_quiet : AreQuiet before
  pub node : Node
  pub spells : SpellsLeaf on names text top page.Definition ds node
  pub behind : Nodes
  pub is_quiet_behind : AreQuiet behind
  pub writes : Writes text old.out new.out (append before (append (one node) behind))
  pub stands : StandsAt text to (standing new)
  pub around : HasSameOpen (standing old) (standing new)
  pub written : written_to new ≡ end_at new.line_end 0
  -- the node begins on the line on which the walk was, and ends on the line on which it is
  pub starts : (written_to old).index ≤ (node_start node).index
  pub begins : (node_start node).index ≤ old.line_end
  pub ends : IsOnOneLine text (node_end node).index new.line_end
  pub filled : IsFilled Lines Plain node

-- Where a definition is laid that begins on the line that is begun, and all before it is written, it is written with its label, its destination and its title.
abbrev pub WritesReadDefinition : {A : Type 0} → Reading → LeafBlock → Walk A → Walk A → Type 0
WritesReadDefinition r leaf old new =
    (text : List ℕ) (top : Bool) (here : LineRest) (left : List LineRest) (to : Place) → StandsAt text (Within here left) (standing old)
    → IsWrittenToRest old → IsInOrder text old.out → IsWrittenLaid old.on.now (around (standing old)) leaf (Within here left) to
    → WritesDefinition r.parse.constructs r.tables.names text top (leaf_definitions leaf) to old new
