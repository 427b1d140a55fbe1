-- What is written spells what is open, after one more row (CommonMark 5).
use Rattle.std.specs.Prelude.{◌≡◌, ◌⊎◌, ◌≤◌, ◌+◌, ℕ, Bool, true, false, List, [], ◌∷◌, Option, None, Some, length, map}
use Rattle.markdown_options.specs.LineEndings.{ending_bytes}
use Rattle.markdown_options.specs.declared.line_ending.LineEnding.{LineEnding}
use Rattle.engine_events.specs.Names.{is_listed}
use Rattle.engine_events.specs.declared.event.Event.{Event}
use Rattle.engine_events.specs.declared.event.Name.{Name}
use Rattle.engine_events.specs.declared.event.Name.TheVariants as n
use Rattle.definition_block.specs.Container.{Container}
use Rattle.definition_block.specs.Definitions.{leaf_definitions}
use Rattle.definition_block.specs.Tree.{LeafBlock, Block, Leaf, Holds, Items, Ending, Blank, Blocks, Nil as NoBlock, join, one as one_block}
use Rattle.definition_page.specs.InlinePieces.{Meaning}
use Rattle.definition_page.specs.Page as page
use Rattle.definition_page.specs.Read.{Reading, Standing, read_leaf}
use Rattle.event_grammar.specs.declared.slot.Between.TheVariants.{Lines}
use Rattle.event_grammar.specs.declared.slot.Form.TheVariants.{Plain}
use Rattle.event_grammar.specs.Points.{spot_of}
use Rattle.event_grammar.specs.Grammar.{block_names}
use Rattle.event_grammar.specs.InGrammar.{kids_of, node_name}
use Rattle.event_grammar.specs.References.{named}
use Rattle.event_grammar.specs.Trees.{Growth, Node, Nodes, Around, Nil}
use Rattle.event_meaning.specs.Blocks.{blocks_of, one as one_page_block}
use Rattle.event_meaning.specs.Children.{text_of}
use Rattle.event_meaning.specs.Spelled.{definition_of}
use Rattle.parse_output.specs.Forest.{entered, exited, one, with_nodes}
use Rattle.parse_slots.specs.Left.{IsFilled}
use Rattle.parse_references.specs.Sound.{IsSound}
use Rattle.parse_alike.specs.Composed.{ends_unclosed, standing_after}
use Rattle.parse_alike.specs.Meanings.{AreMeanings}
use Rattle.parse_alike.specs.Page.{AreBlocksAlike}
use Rattle.parse_alike.specs.Targets.{AreDefinitionsAlike}
use Rattle.parse_open.specs.Filled.{holder_form}
use Rattle.parse_open.specs.Lines.{line_at}
use Rattle.parse_open.specs.Open.{InContainer, InList, Level, Opened, is_in_list, level, opened, within}
use Rattle.parse_open.specs.Levels.{AreMute, HasStart, IsNamed, IsOfList, Spells, innermost, is_item, list_name, standing_at}

-- the ending of a line, by a name
pub record IsEndingNode (text : List ℕ) (name : Name) (ending : LineEnding) (node : Node) : Type 0 where
  pub named : node_name node ≡ name
  pub empty : kids_of node ≡ Nil
  pub bytes : text_of text node ≡ ending_bytes ending

-- a list that is the innermost has an item that is finished
abbrev pub IsBegun : Opened → Type 0
IsBegun o = is_in_list o.outer ≡ true → o.kids ≡ NoBlock → ⊥

-- where the next block stands in the innermost that is open
abbrev pub next_stands : Opened → Standing
next_stands o = standing_after (standing_at o.outer) o.kids

-- the name of a node that begins a container
abbrev pub IsStartName : Name → Type 0
IsStartName name = (name ≡ n.BlockQuotePrefix) ⊎ (name ≡ n.ListItemPrefix) ⊎ (name ≡ n.GfmFootnoteDefinitionPrefix)

module _ (r : Reading) (text : List ℕ) (front : Nodes) where
  -- a node spells a leaf that stands here, and its definitions, fills its row and is sound
  pub record IsNodeOf (standing : Standing) (leaf : LeafBlock) (node : Node) : Type 0 where
    pub is_block : is_listed block_names (node_name node) ≡ true
    pub blocks : (m m' : Meaning) → AreMeanings r.parse.constructs r.tables.names m m'
        → AreBlocksAlike m m' (one_page_block (page.Leaf (read_leaf r standing leaf))) (blocks_of r.tables.names text standing.top (one node))
    pub defined : (m m' : Meaning) → AreMeanings r.parse.constructs r.tables.names m m'
        → AreDefinitionsAlike m m' (leaf_definitions leaf) (map (definition_of r.tables.names text) (named n.Definition (one node)))
    pub filled : IsFilled Lines Plain node
    pub sound : IsSound r.parse.constructs r.tables.names text node

  -- what is written spells what is open, after one more row or a part of its nodes
  pub record LevelsGoOn : Type 0 where
    pub mute : (o : Opened) (g : Growth) (line : ℕ) (ns : Nodes) → AreMute ns → IsBegun o → Spells r text front o g line
        → Spells r text front o (with_nodes g ns) line
    -- the ending of a block's last line; in unclosed code at the top it is written already
    pub ending : (o : Opened) (g : Growth) (line : ℕ) (e : LineEnding) (node : Node) → IsEndingNode text n.LineEnding e node
        → (o.outer ≡ [] → ends_unclosed false o.kids ≡ false) → IsBegun o → Spells r text front o g line
        → Spells r text front (opened (join o.kids (one_block (Ending (Some e)))) o.outer o.places) (with_nodes g (one node)) (line + 1)
    pub in_code : (o : Opened) (g : Growth) (line other : ℕ) (e : LineEnding) → o.outer ≡ [] → ends_unclosed false o.kids ≡ true
        → Spells r text front o g line → Spells r text front (opened (join o.kids (one_block (Ending (Some e)))) o.outer o.places) g other
    pub no_ending : (o : Opened) (g : Growth) (line other : ℕ) → o.outer ≡ [] → Spells r text front o g line
        → Spells r text front (opened (join o.kids (one_block (Ending None))) o.outer o.places) g other
    -- a blank line
    pub blank : (o : Opened) (g : Growth) (line : ℕ) (e : LineEnding) (node : Node) → IsEndingNode text n.BlankLineEnding e node
        → IsBegun o → Spells r text front o g line
        → Spells r text front (opened (join o.kids (one_block (Blank (Some e)))) o.outer o.places) (with_nodes g (one node)) (line + 1)
    pub no_blank : (o : Opened) (g : Growth) (line other : ℕ) → o.outer ≡ [] → Spells r text front o g line
        → Spells r text front (opened (join o.kids (one_block (Blank None))) o.outer o.places) g other
    -- a leaf
    pub leaf : (o : Opened) (g : Growth) (leaf : LeafBlock) (enter exit : Event) (kids : Nodes) → is_in_list o.outer ≡ false
        → IsNodeOf (next_stands o) leaf (Around enter kids exit) → (spot_of enter).index ≤ length text
        → Spells r text front o g (line_at text (spot_of enter).index)
        → Spells r text front (opened (join o.kids (one_block (Leaf leaf))) o.outer o.places) (with_nodes g (one (Around enter kids exit)))
        (line_at text (spot_of exit).index)
    -- a container begins with its prefix, a list with nothing
    pub container : (o : Opened) (g : Growth) (line : ℕ) (c : Container) (goes_on : Bool) (enter : Event) (first : Node)
        → is_in_list o.outer ≡ is_item (InContainer c goes_on) → IsNamed (InContainer c goes_on) enter.name
        → IsOfList (InContainer c goes_on) (innermost g.outer) → (spot_of enter).index ≤ length text → IsStartName (node_name first)
        → named n.Definition (one first) ≡ [] → HasStart r text front (InContainer c goes_on) enter.name NoBlock (one first)
        → IsFilled Lines (holder_form (InContainer c goes_on)) first → IsSound r.parse.constructs r.tables.names text first
        → Spells r text front o g (line_at text (spot_of enter).index)
        → Spells r text front (within (InContainer c goes_on) o) (with_nodes (entered g enter) (one first)) line
    pub list : (o : Opened) (g : Growth) (line : ℕ) (number : Option ℕ) (enter : Event) → is_in_list o.outer ≡ false → enter.name ≡ list_name number
        → (spot_of enter).index ≤ length text → Spells r text front o g (line_at text (spot_of enter).index)
        → Spells r text front (within InList o) (entered g enter) line
    -- a container ends
    pub container_ends : (o : Opened) (g : Growth) (c : Container) (goes_on : Bool) (before : Blocks) (levels : List Level) (exit : Event)
        → o.outer ≡ level (InContainer c goes_on) before ∷ levels → Spells r text front o g (line_at text (spot_of exit).index)
        → Spells r text front (opened (join before (one_block (Holds c o.kids))) levels o.places) (exited g exit) (line_at text (spot_of exit).index)
    -- a list ends, whose last item is here
    pub list_ends : (o : Opened) (g : Growth) (before items : Blocks) (item : Block) (levels : List Level) (exit : Event)
        → o.outer ≡ level InList before ∷ levels → o.kids ≡ join items (one_block item) → Spells r text front o g (line_at text (spot_of exit).index)
        → Spells r text front (opened (join before (one_block (Items o.kids))) levels o.places) (exited g exit) (line_at text (spot_of exit).index)
