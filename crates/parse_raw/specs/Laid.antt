-- What is written of a leaf that is laid in the lines of a text (CommonMark 4).
use Rattle.std.specs.Prelude.{◌≡◌, ◌≤◌, ◌<◌, ℕ, Bool, true, false, List, [], ◌++◌, Option, None, Some, length}
use Rattle.markdown_options.specs.declared.configuration.Constructs.{Constructs}
use Rattle.markdown_options.specs.declared.line_ending.LineEnding.{LineEnding}
use Rattle.markdown_options.specs.LineEndings.{ending_bytes}
use Rattle.markdown_options.specs.declared.beside.Kind.{Kind}
use Rattle.markdown_options.specs.declared.beside.Kind.TheVariants.{Whitespace}
use Rattle.engine_events.specs.declared.event.Name.{Name}
use Rattle.engine_events.specs.declared.event.Name.TheVariants as n
use Rattle.engine_events.specs.declared.event.Name.TheVariants.{BlankLineEnding}
use Rattle.definition_text.specs.BlockLines.{BlockLine}
use Rattle.definition_text.specs.Lines.{TextLine, lines}
use Rattle.definition_block.specs.Frontmatter.{after_frontmatter}
use Rattle.definition_block.specs.Tree.{LeafBlock}
use Rattle.definition_inline.specs.CharacterReference.{Names}
use Rattle.definition_page.specs.Page as page
use Rattle.definition_page.specs.Read.{Reading, read_leaf}
use Rattle.block_starts.specs.View.{rest_of}
use Rattle.event_grammar.specs.declared.slot.Between.TheVariants.{Lines}
use Rattle.event_grammar.specs.declared.slot.Form.TheVariants.{Plain}
use Rattle.event_grammar.specs.InGrammar.{kids_of, node_name}
use Rattle.event_grammar.specs.References.{named}
use Rattle.event_grammar.specs.Trees.{Node, Nodes, Nil}
use Rattle.event_meaning.specs.Children.{text_of}
use Rattle.parse_output.specs.Forest.{append, one}
use Rattle.parse_output.specs.Written.{IsInOrder, Writes}
use Rattle.parse_slots.specs.Left.{IsFilled}
use Rattle.parse_laid.specs.Laid.{IsBlankLaid}
use Rattle.parse_laid.specs.Leaves.{IsLeafLaid}
use Rattle.parse_laid.specs.Places.{AtEnding, Between, LineRest, Place, Within, unread}
use Rattle.parse_lines.specs.declared.walk.Walk.{Walk}
use Rattle.parse_lines.specs.Ends.{IsWrittenToLine, IsWrittenToRest, written_to}
use Rattle.parse_lines.specs.Quiet.{AreQuiet}
use Rattle.parse_lines.specs.Standing.{StandsAt, around, standing}
use Rattle.parse_lines.specs.Steps.{HasSameOpen}
use Rattle.parse_raw.specs.Written.{SpellsLeaf, WritesLeaf, node_end, node_start}

-- ---- fenced code

-- strings are read by these constructs and names, and the code has so many lines
pub record IsFenceRead (r : Reading) (on : Constructs) (names : Names) (count : ℕ) (ls : List BlockLine) : Type 0 where
  pub constructs : r.parse.constructs ≡ on
  pub same_names : r.tables.names ≡ names
  pub lines : count ≡ length ls

-- Where this leaf begins in a container, it is written.
abbrev pub WritesReadInside : {A : Type 0} → Reading → Bool → LeafBlock → Walk A → Walk A → Type 0
WritesReadInside r first leaf old new =
    (text : List ℕ) (here : LineRest) (left : List LineRest) (to : Place) → StandsAt text (Within here left) (standing old) → IsWrittenToRest old
    → IsInOrder text old.out → old.on.now ≡ r.parse.constructs → IsLeafLaid old.on.now (around (standing old)) leaf (Within here left) to
    → WritesLeaf r.parse.constructs r.tables.names text false (read_leaf r (record { top = false; first = first }) leaf) [] to old new

-- Outside of containers the node is written with the ending of its last line in it, if there is one. The walk stands after that line then.
pub record WritesToEnd {A : Type 0} (on : Constructs) (names : Names) (text : List ℕ) (leaf : page.PageLeaf) (to : Place) (old new : Walk A) : Type 0 where
  pub before : Nodes
  pub are_quiet : AreQuiet before
  pub node : Node
  pub spells : SpellsLeaf on names text true leaf [] node
  pub writes : Writes text old.out new.out (append before (one node))
  pub ending : Option LineEnding
  pub left : List LineRest
  pub last : to ≡ AtEnding ending left
  pub stands : StandsAt text (Between left) (standing new)
  pub around : HasSameOpen (standing old) (standing new)
  pub written : IsWrittenToLine new
  pub starts : (written_to old).index ≤ (node_start node).index
  pub begins : (node_start node).index ≤ old.line_end
  pub ends : (node_end node).index ≡ (written_to new).index
  pub filled : IsFilled Lines Plain node

-- Where this leaf begins at the top, it is written so.
abbrev pub WritesReadToEnd : {A : Type 0} → Reading → Bool → LeafBlock → Walk A → Walk A → Type 0
WritesReadToEnd r first leaf old new =
    (text : List ℕ) (here : LineRest) (left : List LineRest) (to : Place) → StandsAt text (Within here left) (standing old) → IsWrittenToRest old
    → IsInOrder text old.out → old.on.now ≡ r.parse.constructs → IsLeafLaid old.on.now (around (standing old)) leaf (Within here left) to
    → WritesToEnd r.parse.constructs r.tables.names text (read_leaf r (record { top = true; first = first }) leaf) to old new

-- fenced code that no fence closes: in a container it ends before the ending of its last line, outside of containers after it
abbrev pub WritesReadUnclosed : {A : Type 0} → Reading → Bool → LeafBlock → Walk A → Walk A → Type 0
WritesReadUnclosed r first leaf old new =
    (0 < length (standing old).outermost → WritesReadInside r first leaf old new)
    × ((standing old).outermost ≡ [] → WritesReadToEnd r first leaf old new)

-- ---- endings and blank lines

-- The nodes of an ending by a name: one that holds no other and has its bytes, or none where there is no ending.
abbrev pub AreEnding : List ℕ → Name → Option LineEnding → Nodes → Type 0
AreEnding text name None ns = ns ≡ Nil
AreEnding text name (Some ending) ns =
    (node : Node) × (ns ≡ one node) × (node_name node ≡ name) × (kids_of node ≡ Nil) × (text_of text node ≡ ending_bytes ending)

-- the ending of a blank line is written after nodes that spell nothing, and the walk stands at a place after it
pub record WritesBlank {A : Type 0} (text : List ℕ) (ending : Option LineEnding) (to : Place) (old new : Walk A) : Type 0 where
  pub before : Nodes
  pub are_quiet : AreQuiet before
  -- all that is left of the line is among them
  pub space : before ≡ Nil → rest_of old.rest ≡ []
  pub nodes : Nodes
  pub are_ending : AreEnding text BlankLineEnding ending nodes
  pub writes : Writes text old.out new.out (append before nodes)
  pub stands : StandsAt text to (standing new)
  pub around : HasSameOpen (standing old) (standing new)
  pub written : IsWrittenToLine new

-- Where a blank line is laid here, it is written.
abbrev pub WritesBlankLaid : {A : Type 0} → Walk A → Walk A → Type 0
WritesBlankLaid old new =
    (text : List ℕ) (ending : Option LineEnding) (here : LineRest) (left : List LineRest) (to : Place) → StandsAt text (Within here left) (standing old)
    → IsWrittenToRest old → IsInOrder text old.out → IsBlankLaid old.on.now (around (standing old)) ending (Within here left) to
    → WritesBlank text ending to old new

-- ---- frontmatter

-- The lines of a text begin with frontmatter, which has these lines, and after which these are left (in neither standard).
pub record HasFrontmatter (on : Constructs) (front : List TextLine) (all others : List TextLine) : Type 0 where
  pub parts : all ≡ front ++ others
  pub found : after_frontmatter on all ≡ Some others

-- The node of frontmatter is written after nodes that spell nothing, and then the ending of its last line, if it has one.
pub record WritesFront {A : Type 0} (text : List ℕ) (others : List TextLine) (old new : Walk A) : Type 0 where
  pub before : Nodes
  pub are_quiet : AreQuiet before
  pub node : Node
  pub is_front : node_name node ≡ n.Frontmatter
  pub filled : IsFilled Lines Plain node
  pub definitions : named n.Definition (one node) ≡ []
  pub ending : Option LineEnding
  pub nodes : Nodes
  pub are_ending : AreEnding text n.LineEnding ending nodes
  pub last : ending ≡ None → others ≡ []
  pub writes : Writes text old.out new.out (append before (append (one node) nodes))
  pub stands : StandsAt text (Between (unread Whitespace others)) (standing new)
  pub around : HasSameOpen (standing old) (standing new)
  pub written : IsWrittenToLine new

-- Outside of containers, where the next lines begin with frontmatter of so many lines, it is written.
abbrev pub WritesFrontLaid : {A : Type 0} → ℕ → Walk A → Walk A → Type 0
WritesFrontLaid count old new =
    (text : List ℕ) (before : Kind) (front others : List TextLine) → count ≡ length front
    → HasFrontmatter old.on.now front (lines old.left.now) others → StandsAt text (Between (unread before (lines old.left.now))) (standing old)
    → (standing old).outermost ≡ [] → IsWrittenToLine old → IsInOrder text old.out → WritesFront text others old new
