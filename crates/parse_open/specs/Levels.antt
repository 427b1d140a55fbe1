-- What the nodes spell that are written so far, in what is open and in the document (CommonMark 5).
use Rattle.std.specs.Prelude.{◌≡◌, ◌⊎◌, ◌≤◌, ℕ, Bool, true, false, List, [], ◌∷◌, Option, None, Some, map, length}
use Rattle.engine_events.specs.declared.event.Name.{Name}
use Rattle.engine_events.specs.declared.event.Name.TheVariants as n
use Rattle.definition_block.specs.Container.{Quote, Item, Footnote}
use Rattle.definition_block.specs.Definitions.{definitions}
use Rattle.definition_block.specs.ListItem.{number_of}
use Rattle.definition_block.specs.Lists.{has_gap_inside}
use Rattle.definition_block.specs.Tree as tree
use Rattle.definition_page.specs.InlinePieces.{Meaning}
use Rattle.definition_page.specs.Read.{Reading, Standing, in_container, list_number, on_page, read_blocks, standing_in}
use Rattle.event_check.specs.Loose.{has_loose_item}
use Rattle.event_grammar.specs.declared.slot.Child.{Child}
use Rattle.event_grammar.specs.declared.slot.Child.TheVariants.{Only, Block}
use Rattle.event_grammar.specs.Points.{spot_of}
use Rattle.event_grammar.specs.InGrammar.{kids_of, node_name}
use Rattle.event_grammar.specs.References.{named}
use Rattle.event_grammar.specs.Trees.{Growth, Nodes, Part, Nil, Cons}
use Rattle.event_meaning.specs.Blocks as spelled
use Rattle.event_meaning.specs.Blocks.{blocks_of, footnote_label}
use Rattle.event_meaning.specs.Children.{kids_in, text_in}
use Rattle.event_meaning.specs.Spelled.{definition_of}
use Rattle.event_grammar.specs.declared.slot.Between.TheVariants.{Lines}
use Rattle.event_grammar.specs.declared.slot.Form.TheVariants.{Plain}
use Rattle.parse_output.specs.Forest.{append}
use Rattle.parse_slots.specs.Left.{IsFilled}
use Rattle.parse_references.specs.Sound.{AreSound}
use Rattle.parse_alike.specs.Meanings.{AreMeanings}
use Rattle.parse_alike.specs.Page.{AreBlocksAlike}
use Rattle.parse_alike.specs.Targets.{AreDefinitionsAlike, AreLabelsAlike}
use Rattle.parse_open.specs.Filled.{FillAt, marker_list}
use Rattle.parse_open.specs.Lines.{AreSpread, line_at}
use Rattle.parse_open.specs.Open.{Holder, InContainer, InList, Level, Opened, is_in_list}

-- ---- what holds blocks

-- where the first block stands in what holds it
abbrev pub holder_standing : Holder → Standing
holder_standing (InContainer c goes_on) = standing_in c
holder_standing InList = in_container

abbrev pub standing_at : List Level → Standing
standing_at [] = on_page
standing_at (l ∷ levels) = holder_standing l.holder

-- which of its children count where looseness is told
abbrev pub holder_child : Holder → Child
holder_child (InContainer c goes_on) = Block
holder_child InList = Only n.ListItem

-- the name of a list, by the number of its first item
abbrev pub list_name : Option ℕ → Name
list_name None = n.ListUnordered
list_name (Some number) = n.ListOrdered

-- whether an event is that of a holder
abbrev pub IsNamed : Holder → Name → Type 0
IsNamed (InContainer Quote goes_on) name = name ≡ n.BlockQuote
IsNamed (InContainer (Item item) goes_on) name = name ≡ n.ListItem
IsNamed (InContainer (Footnote label) goes_on) name = name ≡ n.GfmFootnoteDefinition
IsNamed InList name = (number : Option ℕ) × (name ≡ list_name number)

-- whether it is an item: those stand in lists, and nothing else does
abbrev pub is_item : Holder → Bool
is_item (InContainer Quote goes_on) = false
is_item (InContainer (Item item) goes_on) = true
is_item (InContainer (Footnote label) goes_on) = false
is_item InList = false

-- an item has a number if its list is ordered, and a marker by which lists of this name are told
abbrev pub IsOfList : Holder → Name → Type 0
IsOfList (InContainer (Item item) goes_on) list = (list ≡ list_name item.number) × (list ≡ marker_list item.marker)
IsOfList holder list = Unit {0}

-- nodes begin with one of a name
abbrev pub BeginWith : Name → Nodes → Type 0
BeginWith name Nil = ⊥
BeginWith name (Cons node ns) = node_name node ≡ name

-- Nodes that spell nothing among blocks: white space and prefixes of quotes, which hold no definition and fill their rows.
abbrev pub AreMute : Nodes → Type 0
AreMute Nil = Unit {0}
AreMute (Cons node ns) =
    ((node_name node ≡ n.SpaceOrTab) ⊎ (node_name node ≡ n.BlockQuotePrefix)) × (named n.Definition (kids_of node) ≡ []) × AreMute ns
    × IsFilled Lines Plain node

-- the name of the innermost that is open
abbrev pub innermost : List Part → Name
innermost [] = n.Paragraph
innermost (part ∷ parts) = part.enter.name

-- A text is read so. In front of the blocks of the document are these nodes: a byte order mark, frontmatter.
module _ (r : Reading) (text : List ℕ) (front : Nodes) where
  -- nodes spell blocks that are alike to these, and their definitions, and are sound
  pub record Spell (standing : Standing) (bs : tree.Blocks) (ns : Nodes) : Type 0 where
    pub blocks : (m m' : Meaning) → AreMeanings r.parse.constructs r.tables.names m m'
        → AreBlocksAlike m m' (read_blocks r standing bs) (blocks_of r.tables.names text standing.top ns)
    pub defined : (m m' : Meaning) → AreMeanings r.parse.constructs r.tables.names m m'
        → AreDefinitionsAlike m m' (definitions bs) (map (definition_of r.tables.names text) (named n.Definition ns))
    pub sound : AreSound r.parse.constructs r.tables.names text ns

  -- the number of a list, by the name of its event
  abbrev pub spelled_number : Name → Nodes → Option ℕ
  spelled_number n.ListOrdered ns = Some (spelled.list_number r.tables.names text ns)
  spelled_number name ns = None

  -- the number of an item, as its first prefix has it
  abbrev pub HasNumber : Option ℕ → Nodes → Type 0
  HasNumber None ns = Unit {0}
  HasNumber (Some number) ns = number_of (text_in text n.ListItemValue (kids_in n.ListItemPrefix ns)) ≡ number

  -- A list that is open begins with its first item, and has its number. Before that item is finished, nothing is in it.
  abbrev pub HasListStart : Name → tree.Blocks → Nodes → Type 0
  HasListStart name tree.Nil ns = ns ≡ Nil
  HasListStart name (tree.Cons b bs) ns = BeginWith n.ListItem ns × (list_number (tree.Cons b bs) ≡ spelled_number name ns)

  -- what the nodes in a holder begin with
  abbrev pub HasStart : Holder → Name → tree.Blocks → Nodes → Type 0
  HasStart (InContainer Quote goes_on) name bs ns = BeginWith n.BlockQuotePrefix ns
  HasStart (InContainer (Item item) goes_on) name bs ns = BeginWith n.ListItemPrefix ns × HasNumber item.number ns
  HasStart (InContainer (Footnote label) goes_on) name bs ns =
      BeginWith n.GfmFootnoteDefinitionPrefix ns × AreLabelsAlike label (footnote_label r.tables.names text ns)
  HasStart InList name bs ns = HasListStart name bs ns × (has_loose_item text ns ≡ has_gap_inside bs)

  -- these nodes are in the innermost that is open, or in the document, where so many lines ended
  pub record AreIn (holder : Holder) (name : Name) (bs : tree.Blocks) (ns : Nodes) (line : ℕ) : Type 0 where
    pub spell : Spell (holder_standing holder) bs ns
    pub spread : AreSpread text (holder_child holder) bs ns line
    pub start : HasStart holder name bs ns

  -- These nodes are in the document, after what is in front of its blocks.
  pub record AreOnPage (bs : tree.Blocks) (ns : Nodes) : Type 0 where
    pub left : Nodes
    pub parts : ns ≡ append front left
    pub spell : Spell on_page bs left

  abbrev pub AreAt : List Level → List Part → tree.Blocks → Nodes → ℕ → Type 0
  AreAt [] parts bs ns line = AreOnPage bs ns
  AreAt (l ∷ levels) parts bs ns line = AreIn l.holder (innermost parts) bs ns line

  -- what is open, and what is written before it in what is around it
  abbrev pub AreOpen : List Level → List Part → Type 0
  AreOpen [] [] = Unit {0}
  AreOpen [] (part ∷ parts) = ⊥
  AreOpen (l ∷ levels) [] = ⊥
  AreOpen (l ∷ levels) (part ∷ parts) =
      IsNamed l.holder part.enter.name × ((spot_of part.enter).index ≤ length text) × (is_in_list levels ≡ is_item l.holder)
      × IsOfList l.holder (innermost parts) × AreAt levels parts l.before part.before (line_at text (spot_of part.enter).index) × AreOpen levels parts
      × FillAt levels (innermost parts) l.before part.before

  -- a growth of nodes spells what is open after some rows, where so many lines ended, and fills its rows of the grammar up to there
  pub record Spells (o : Opened) (g : Growth) (line : ℕ) : Type 0 where
    pub kids : AreAt o.outer g.outer o.kids g.kids line
    pub around : AreOpen o.outer g.outer
    pub fill : FillAt o.outer (innermost g.outer) o.kids g.kids
