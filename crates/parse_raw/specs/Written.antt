-- What is written of a block that holds no other (CommonMark 4).
use Rattle.std.specs.Prelude.{◌≡◌, ◌≤◌, ℕ, Bool, true, List, map}
use Rattle.markdown_options.specs.declared.configuration.Constructs.{Constructs}
use Rattle.engine_events.specs.Names.{is_listed}
use Rattle.engine_events.specs.declared.event.Name.TheVariants as n
use Rattle.definition_inline.specs.CharacterReference.{Names}
use Rattle.definition_inline.specs.Definition.{Definition}
use Rattle.definition_page.specs.InlinePieces.{Meaning}
use Rattle.definition_page.specs.Page as page
use Rattle.event_grammar.specs.Points.{spot_of}
use Rattle.event_grammar.specs.declared.slot.Between.TheVariants.{Lines}
use Rattle.event_grammar.specs.declared.slot.Form.TheVariants.{Plain}
use Rattle.event_grammar.specs.Grammar.{block_names}
use Rattle.event_grammar.specs.InGrammar.{node_name}
use Rattle.event_grammar.specs.References.{named}
use Rattle.event_grammar.specs.Trees.{Node, Nodes, Around}
use Rattle.event_grammar.specs.declared.spot.Spot.{Spot}
use Rattle.event_meaning.specs.Blocks.{blocks_of, one as one_block}
use Rattle.event_meaning.specs.Spelled.{definition_of}
use Rattle.parse_output.specs.Ends.{end_at}
use Rattle.parse_output.specs.Forest.{append, one}
use Rattle.parse_output.specs.Written.{Writes}
use Rattle.parse_slots.specs.Left.{IsFilled}
use Rattle.parse_references.specs.Sound.{IsSound}
use Rattle.parse_alike.specs.Meanings.{AreMeanings}
use Rattle.parse_alike.specs.Page.{AreBlocksAlike}
use Rattle.parse_alike.specs.Targets.{AreDefinitionsAlike}
use Rattle.parse_laid.specs.Places.{Place}
use Rattle.parse_lines.specs.declared.walk.Walk.{Walk}
use Rattle.parse_lines.specs.Ends.{written_to}
use Rattle.parse_lines.specs.Quiet.{AreQuiet}
use Rattle.parse_lines.specs.Standing.{StandsAt, standing}
use Rattle.parse_lines.specs.Steps.{HasSameOpen}

-- the node of a block spells this leaf at the top or in a container, and these definitions
pub record SpellsLeaf (on : Constructs) (names : Names) (text : List ℕ) (top : Bool) (leaf : page.PageLeaf) (ds : List Definition) (node : Node) : Type 0 where
  pub is_block : is_listed block_names (node_name node) ≡ true
  pub blocks : (m m' : Meaning) → AreMeanings on names m m' → AreBlocksAlike m m' (one_block (page.Leaf leaf)) (blocks_of names text top (one node))
  pub definitions : (m m' : Meaning) → AreMeanings on names m m' → AreDefinitionsAlike m m' ds (map (definition_of names text) (named n.Definition (one node)))
  pub sound : IsSound on names text node

-- where a node begins and ends in a text
abbrev pub node_start : Node → Spot
node_start (Around enter kids exit) = spot_of enter

abbrev pub node_end : Node → Spot
node_end (Around enter kids exit) = spot_of exit

-- The node of a block is written, after nodes that spell nothing; the walk stands at the place then, and all before the ending of its line is written.
pub record WritesLeaf {A : Type 0} (on : Constructs) (names : Names) (text : List ℕ) (top : Bool) (leaf : page.PageLeaf) (ds : List Definition) (to : Place)
    (old new : Walk A) : Type 0 where
  pub before : Nodes
  pub are_quiet : AreQuiet before
  pub node : Node
  pub spells : SpellsLeaf on names text top leaf ds node
  pub writes : Writes text old.out new.out (append before (one node))
  pub stands : StandsAt text to (standing new)
  pub around : HasSameOpen (standing old) (standing new)
  pub written : written_to new ≡ end_at new.line_end 0
  -- the node begins on the line on which the walk was, and ends with the line on which it is
  pub starts : (written_to old).index ≤ (node_start node).index
  pub begins : (node_start node).index ≤ old.line_end
  pub ends : (node_end node).index ≡ new.line_end
  pub filled : IsFilled Lines Plain node
