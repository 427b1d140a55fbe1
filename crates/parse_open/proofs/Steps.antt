-- What is written spells what is open, after one more row.
use Rattle.std.proofs.Common.{◌≡◌, inl, inr, ◌≤◌, ◌+◌, ℕ, Bool, true, false, List, [], ◌∷◌, ◌++◌, Option, None, Some, refl, sym, ap, ap₂, ◌∙◌, subst, map}
use Rattle.std.proofs.Common.{length}
use Rattle.parse_open.proofs.Prelude.{after_leaf, alike_blocks_compose, append, append-nil, AreBlocksAlike, AreDefinitionsAlike, AreMute, AreOpen, AreSpread}
use Rattle.parse_open.proofs.Prelude.{Around, BeginWith, Blank, Block, block_names, block_of, Blocks, blocks_from, blocks_of, Break, child, Child, Cons}
use Rattle.parse_open.proofs.Prelude.{ConsBlock, Container, cut, Definition, definition_of, definitions, Ending, ending_bytes, ending_of, Event, exited}
use Rattle.parse_open.proofs.Prelude.{FencedCode, Footnote, growth, has, has_gap, has_gap_inside, has_loose_item, Heading, Holder, Holds, Html, if◌then◌else◌}
use Rattle.parse_open.proofs.Prelude.{in_container, InContainer, IndentedCode, InList, inside_of, is_ending, is_in_list, is_listed, is_loose, is_loose_item}
use Rattle.parse_open.proofs.Prelude.{IsEndingNode, Item, ItemParts, Items, join, kids_in, Leaf, leaf_definitions, LeafBlock, level, Level, line_at}
use Rattle.parse_open.proofs.Prelude.{LineEnding, list_number, Meaning, Name, named, next_standing, Nil, NoBlock, Node, node_name, Nodes, on_page, one}
use Rattle.parse_open.proofs.Prelude.{one_block, Opened, opened, Paragraph, Part, Place, Quote, read_blocks, read_container, read_leaf, Reading, same_name}
use Rattle.parse_open.proofs.Prelude.{Spell, Spells, spot_of, Standing, standing_in, start_of, Table, text_of, true≢false, without_ending}
use Rattle.std.specs.Prelude.{◌||◌, ◌&&◌}
use Rattle.markdown_options.specs.declared.line_ending.LineEnding.TheVariants.{CarriageReturnLineFeed, CarriageReturn, LineFeed}
use Rattle.engine_events.specs.declared.event.Name.TheVariants as n
use Rattle.definition_block.specs.ListItem.{number_of}
use Rattle.definition_block.specs.Tree.{Definition as DefinitionLeaf}
use Rattle.definition_page.specs.Page as page
use Rattle.event_check.specs.Loose.{is_loose_list}
use Rattle.event_grammar.specs.declared.slot.Child.TheVariants.{Only, Block as BlockChild}
use Rattle.event_meaning.specs.Blocks as spelled
use Rattle.event_meaning.specs.Blocks.{footnote_label}
use Rattle.event_meaning.specs.Children.{text_in}
use Rattle.parse_output.specs.Forest.{bytes_from, is_nil}
use Rattle.parse_output.proofs.Forests.{append-assoc, append-nil as append-none}
use Rattle.parse_alike.specs.Composed.{after_unclosed, ends_unclosed, standing_after}
use Rattle.parse_alike.specs.Page.{AreContainersAlike}
use Rattle.parse_alike.specs.Targets.{AreLabelsAlike}
use Rattle.parse_open.specs.Open.{is_list}
use Rattle.parse_open.proofs.Spread.{spread_blocks_compose}
use Rattle.parse_open.specs.Filled.{FillAt, first_prefix}
use Rattle.parse_open.specs.Levels.{AreAt, AreIn, HasListStart, HasNumber, HasStart, IsNamed, IsOfList}
use Rattle.parse_open.specs.Levels.{holder_child, holder_standing, innermost, is_item, list_name, spelled_number, standing_at}
use Rattle.parse_open.specs.NodeLaws.{LevelsAlwaysGoOn}
use Rattle.parse_open.specs.Steps.{IsBegun, IsNodeOf, IsStartName, LevelsGoOn}
use Rattle.parse_open.proofs.Filled as filled
use Rattle.parse_open.proofs.Filled.{HasItems, blank_between, container_filled, ending_between, list_filled, mute_between}
use Rattle.parse_references.specs.Sound.{IsSound}
use Rattle.parse_references.proofs.Sound.{sound_one}
use Rattle.parse_open.proofs.Sound.{ending_sound, holder_sound}
use Rattle.parse_open.proofs.Nodes.{SpellMore, begins_more, first_kids, followed_is, from_start, spell_more, spell_mute}

in_container_only : (h : Holder) → (holder_standing h).top ≡ false
in_container_only (InContainer Quote goes_on) = refl
in_container_only (InContainer (Item item) goes_on) = refl
in_container_only (InContainer (Footnote label) goes_on) = refl
in_container_only InList = refl

-- the number of a list is that of its first item
number_more : (b : Block) (bs cs : Blocks) → list_number (ConsBlock b bs) ≡ list_number (ConsBlock b cs)
number_more (Leaf leaf) bs cs = refl
number_more (Holds c kids) bs cs = refl
number_more (Items items) bs cs = refl
number_more (Ending ending) bs cs = refl
number_more (Blank ending) bs cs = refl

abbrev some_block : Blocks → Bool
some_block NoBlock = false
some_block (ConsBlock b bs) = true

abbrev some_level : List Level → Bool
some_level [] = false
some_level (l ∷ levels) = true

-- a list that is open is as loose as its blocks
abbrev IsLooseAs : List ℕ → Holder → Blocks → Nodes → Type 0
IsLooseAs text (InContainer c goes_on) bs ns = Unit {0}
IsLooseAs text InList bs ns = has_loose_item text ns ≡ has_gap_inside bs

join-none : (bs : Blocks) → join bs NoBlock ≡ bs
join-none NoBlock = refl
join-none (ConsBlock b bs) = ap (ConsBlock b) (join-none bs)

-- a node that is no child there
mute_child : (c : Child) → has c n.SpaceOrTab ≡ false → has c n.BlockQuotePrefix ≡ false → (node : Node) (ns : Nodes) → AreMute (Cons node ns)
    → has c (node_name node) ≡ false
mute_child c space prefix node ns (inl is, none, more, filled) = ap (has c) is ∙ space
mute_child c space prefix node ns (inr is, none, more, filled) = ap (has c) is ∙ prefix

holder_space : (h : Holder) → has (holder_child h) n.SpaceOrTab ≡ false
holder_space (InContainer c goes_on) = refl
holder_space InList = refl

holder_prefix : (h : Holder) → has (holder_child h) n.BlockQuotePrefix ≡ false
holder_prefix (InContainer c goes_on) = refl
holder_prefix InList = refl

mute_item : (node : Node) (ns : Nodes) → AreMute (Cons node ns) → node_name node ≡ n.ListItem → ⊥
mute_item node ns (inl is, none, more, filled) item = true≢false (sym (ap (λ (a : Name). same_name a n.ListItem) (sym is ∙ item)))
mute_item node ns (inr is, none, more, filled) item = true≢false (sym (ap (λ (a : Name). same_name a n.ListItem) (sym is ∙ item)))

module _ (text : List ℕ) where
  spread_mute : (h : Holder) (bs : Blocks) (ns ms : Nodes) (line : ℕ) → AreMute ms → AreSpread text (holder_child h) bs ns line
      → AreSpread text (holder_child h) bs (append ns ms) line
  spread_mute h bs ns Nil line are spread = subst (λ (xs : Nodes). AreSpread text (holder_child h) bs xs line) (sym (append-none ns)) spread
  spread_mute h bs ns (Cons node ms) line are spread =
      let c = holder_child h in
      let first : AreSpread text c bs (append ns (one node)) line =
      subst (λ (xs : Nodes). AreSpread text c bs xs line) (followed_is ns node)
      (spread_blocks_compose.quiet text c bs ns line node (mute_child c (holder_space h) (holder_prefix h) node ms are) spread) in
      subst (λ (xs : Nodes). AreSpread text c bs xs line) (append-assoc ns (one node) ms) (spread_mute h bs (append ns (one node)) ms line are.2 first)

  loose_mute : (bs : Blocks) (ns ms : Nodes) → AreMute ms → has_loose_item text ns ≡ has_gap_inside bs → has_loose_item text (append ns ms) ≡ has_gap_inside bs
  loose_mute bs ns Nil are loose = ap (has_loose_item text) (append-none ns) ∙ loose
  loose_mute bs ns (Cons node ms) are loose =
      let first : has_loose_item text (append ns (one node)) ≡ has_gap_inside bs =
      ap (has_loose_item text) (sym (followed_is ns node)) ∙ spread_blocks_compose.other text bs ns node loose (mute_item node ms are) in
      ap (has_loose_item text) (sym (append-assoc ns (one node) ms)) ∙ loose_mute bs (append ns (one node)) ms are.2 first

module _ (r : Reading) (text : List ℕ) (front : Nodes) where
  number_kept : (number : Option ℕ) (ns ms : Nodes) → BeginWith n.ListItemPrefix ns → HasNumber r text front number ns
      → HasNumber r text front number (append ns ms)
  number_kept None ns ms begins has = tt
  number_kept (Some number) ns ms begins has =
      ap (λ (kids : Nodes). number_of (text_in text n.ListItemValue kids)) (first_kids n.ListItemPrefix ns ms begins) ∙ has

  spelled_kept : (name : Name) (ns ms : Nodes) → BeginWith n.ListItem ns → spelled_number r text front name (append ns ms) ≡ spelled_number r text front name ns
  spelled_kept n.ListOrdered ns ms begins =
      ap (λ (kids : Nodes). Some (number_of (text_in text n.ListItemValue (kids_in n.ListItemPrefix kids)))) (first_kids n.ListItem ns ms begins)
  spelled_kept name ns ms begins = refl

  -- what a holder begins with, after more blocks and nodes
  list_start_more : (name : Name) (bs cs : Blocks) (ns ms : Nodes) → (bs ≡ NoBlock → ⊥) → HasListStart r text front name bs ns
      → HasListStart r text front name (join bs cs) (append ns ms)
  list_start_more name NoBlock cs ns ms some start = absurd (some refl)
  list_start_more name (ConsBlock b bs) cs ns ms some start =
      (begins_more n.ListItem ns ms start.0, number_more b (join bs cs) bs ∙ start.1 ∙ sym (spelled_kept name ns ms start.0))

  start_more : (h : Holder) (name : Name) (bs cs : Blocks) (ns ms : Nodes) → HasItems h bs
      → IsLooseAs text h (join bs cs) (append ns ms) → HasStart r text front h name bs ns
      → HasStart r text front h name (join bs cs) (append ns ms)
  start_more (InContainer Quote goes_on) name bs cs ns ms some loose start = begins_more n.BlockQuotePrefix ns ms start
  start_more (InContainer (Item item) goes_on) name bs cs ns ms some loose start =
      (begins_more n.ListItemPrefix ns ms start.0, number_kept item.number ns ms start.0 start.1)
  start_more (InContainer (Footnote label) goes_on) name bs cs ns ms some loose start = (
    begins_more n.GfmFootnoteDefinitionPrefix ns ms start.0,
    subst (λ (kids : Nodes). AreLabelsAlike label (spelled.label_of r.tables.names text
        (child n.GfmFootnoteDefinitionLabelString (kids_in n.GfmFootnoteDefinitionLabel kids))))
        (sym (first_kids n.GfmFootnoteDefinitionPrefix ns ms start.0)) start.1,
  )
  start_more InList name bs cs ns ms some loose start = (list_start_more name bs cs ns ms some start.0, loose)

  loose_of : (h : Holder) (name : Name) (bs : Blocks) (ns : Nodes) → HasStart r text front h name bs ns → IsLooseAs text h bs ns
  loose_of (InContainer c goes_on) name bs ns start = tt
  loose_of InList name bs ns start = start.1

  loose_still : (h : Holder) (bs : Blocks) (ns ms : Nodes) → AreMute ms → IsLooseAs text h bs ns → IsLooseAs text h bs (append ns ms)
  loose_still (InContainer c goes_on) bs ns ms are loose = tt
  loose_still InList bs ns ms are loose = loose_mute text bs ns ms are loose

  -- nodes that spell nothing
  in_mute : (h : Holder) (name : Name) (bs : Blocks) (ns ms : Nodes) (line : ℕ) → AreMute ms → HasItems h bs → AreIn r text front h name bs ns line
      → AreIn r text front h name bs (append ns ms) line
  in_mute h name bs ns ms line are some was = record {
    spell = spell_mute r text front (holder_standing h) bs ns ms are was.spell;
    spread = spread_mute text h bs ns ms line are was.spread;
    start =
        subst (λ (xs : Blocks). HasStart r text front h name xs (append ns ms)) (join-none bs)
        (start_more h name bs NoBlock ns ms some
        (subst (λ (xs : Blocks). IsLooseAs text h xs (append ns ms)) (sym (join-none bs)) (loose_still h bs ns ms are (loose_of h name bs ns was.start)))
        was.start);
  }

  items_by : (h : Holder) (o : Opened) → is_in_list o.outer ≡ is_list h → IsBegun o → HasItems h o.kids
  items_by (InContainer c goes_on) o is begun = tt
  items_by InList o is begun = begun is

  at_mute : (levels : List Level) (parts : List Part) (bs : Blocks) (ns ms : Nodes) (line : ℕ) → AreMute ms
      → ((l : Level) (others : List Level) → levels ≡ l ∷ others → HasItems l.holder bs) → AreAt r text front levels parts bs ns line
      → AreAt r text front levels parts bs (append ns ms) line
  at_mute [] parts bs ns ms line are some was =
      record {
        left = append was.left ms;
        parts = ap (λ (xs : Nodes). append xs ms) was.parts ∙ append-assoc front was.left ms;
        spell = spell_mute r text front on_page bs was.left ms are was.spell;
      }
  at_mute (l ∷ levels) parts bs ns ms line are some was = in_mute l.holder (innermost parts) bs ns ms line are (some l levels refl) was

  -- one more block
  abbrev Read : Standing → Blocks → Block → page.Blocks
  Read standing bs b = read_blocks r (standing_after standing bs) (one_block b)

  at_more : (levels : List Level) (parts : List Part) (bs : Blocks) (b : Block) (ns ms : Nodes) (line other : ℕ)
      → SpellMore r text front (standing_at levels) b (Read (standing_at levels) bs b) ms
      → (levels ≡ [] → after_unclosed (ends_unclosed false bs) (Read on_page bs b) ≡ Read on_page bs b)
      → ((l : Level) (others : List Level) → levels ≡ l ∷ others → AreSpread text (holder_child l.holder) bs ns line
      → AreSpread text (holder_child l.holder) (join bs (one_block b)) (append ns ms) other)
      → ((l : Level) (others : List Level) → levels ≡ l ∷ others → HasStart r text front l.holder (innermost parts) bs ns
      → HasStart r text front l.holder (innermost parts) (join bs (one_block b)) (append ns ms))
      → AreAt r text front levels parts bs ns line → AreAt r text front levels parts (join bs (one_block b)) (append ns ms) other
  at_more [] parts bs b ns ms line other own top spread start was =
      record {
        left = append was.left ms;
        parts = ap (λ (xs : Nodes). append xs ms) was.parts ∙ append-assoc front was.left ms;
        spell =
            spell_more r text front on_page bs b (Read on_page bs b) was.left ms
            (alike_blocks_compose.read_top r on_page bs (one_block b) refl ∙ ap (spelled.join (read_blocks r on_page bs)) (top refl)) own was.spell;
      }
  at_more (l ∷ levels) parts bs b ns ms line other own top spread start was =
      let standing = holder_standing l.holder in
      record {
        spell =
            spell_more r text front standing bs b (Read standing bs b) ns ms
            (alike_blocks_compose.read r standing bs (one_block b) (in_container_only l.holder)) own was.spell;
        spread = spread l levels refl was.spread;
        start = start l levels refl was.start;
      }

  -- ---- endings

  ending_same : (e : LineEnding) → ending_of (ending_bytes e) ≡ e
  ending_same CarriageReturnLineFeed = refl
  ending_same CarriageReturn = refl
  ending_same LineFeed = refl

  ending_blocks : (top : Bool) (e : LineEnding) (node : Node) → IsEndingNode text n.LineEnding e node
      → blocks_of r.tables.names text top (one node) ≡ page.Cons (page.Ending e) page.Nil
  ending_blocks top e (Around enter kids exit) is =
      let node = Around enter kids exit in
      ap (λ (a : Name). spelled.join (block_of r.tables.names text top a (text_of text node) kids (blocks_from r.tables.names text (start_of a) kids)) page.Nil)
      is.named
      ∙ ap (λ (bs : List ℕ). page.Cons (page.Ending (ending_of bs)) page.Nil) is.bytes
      ∙ ap (λ (x : LineEnding). page.Cons (page.Ending x) page.Nil) (ending_same e)

  blank_blocks : (top : Bool) (e : LineEnding) (node : Node) → IsEndingNode text n.BlankLineEnding e node
      → blocks_of r.tables.names text top (one node) ≡ page.Cons (page.Blank (ending_of (ending_bytes e))) page.Nil
  blank_blocks top e (Around enter kids exit) is =
      let node = Around enter kids exit in
      ap (λ (a : Name). spelled.join (block_of r.tables.names text top a (text_of text node) kids (blocks_from r.tables.names text (start_of a) kids)) page.Nil)
      is.named
      ∙ ap (λ (bs : List ℕ). page.Cons (page.Blank (ending_of bs)) page.Nil) is.bytes

  ending_named : (name : Name) (e : LineEnding) (node : Node) → same_name name n.Definition ≡ false → IsEndingNode text name e node
      → named n.Definition (one node) ≡ []
  ending_named name e (Around enter kids exit) other is =
      ap (λ (b : Bool). (if b then Around enter kids exit ∷ named n.Definition kids else named n.Definition kids) ++ [])
      (ap (λ (a : Name). same_name a n.Definition) is.named ∙ other)
      ∙ ap (λ (ks : Nodes). named n.Definition ks ++ []) is.empty

  none_defined : (b : Block) (ms : Nodes) → definitions (one_block b) ≡ [] → named n.Definition ms ≡ [] → (m m' : Meaning)
      → AreDefinitionsAlike m m' (definitions (one_block b)) (map (definition_of r.tables.names text) (named n.Definition ms))
  none_defined b ms none bare m m' =
      subst (λ (ds : List Definition). AreDefinitionsAlike m m' ds (map (definition_of r.tables.names text) (named n.Definition ms))) (sym none) (
      subst (λ (xs : List Node). AreDefinitionsAlike m m' [] (map (definition_of r.tables.names text) xs)) (sym bare) tt)

  spell_ending : (standing : Standing) (bs : Blocks) (e : LineEnding) (node : Node) → IsEndingNode text n.LineEnding e node
      → SpellMore r text front standing (Ending (Some e)) (Read standing bs (Ending (Some e))) (one node)
  spell_ending standing bs e node is =
      record {
        blocks = λ m m' means.
            subst (AreBlocksAlike m m' (page.Cons (page.Ending e) page.Nil)) (sym (ending_blocks standing.top e node is)) (refl, tt);
        defined = λ m m' means. none_defined (Ending (Some e)) (one node) refl (ending_named n.LineEnding e node refl is) m m';
        sound = ending_sound r.parse.constructs r.tables.names text n.LineEnding e node refl is;
      }

  spell_blank : (standing : Standing) (bs : Blocks) (e : LineEnding) (node : Node) → IsEndingNode text n.BlankLineEnding e node
      → SpellMore r text front standing (Blank (Some e)) (Read standing bs (Blank (Some e))) (one node)
  spell_blank standing bs e node is =
      record {
        blocks = λ m m' means.
            subst (AreBlocksAlike m m' (page.Cons (page.Blank e) page.Nil)) (sym (blank_blocks standing.top e node is)) (tt, tt);
        defined = λ m m' means. none_defined (Blank (Some e)) (one node) refl (ending_named n.BlankLineEnding e node refl is) m m';
        sound = ending_sound r.parse.constructs r.tables.names text n.BlankLineEnding e node refl is;
      }

  ending_child : (h : Holder) → has (holder_child h) n.LineEnding ≡ false
  ending_child (InContainer c goes_on) = refl
  ending_child InList = refl

  blank_child : (h : Holder) → has (holder_child h) n.BlankLineEnding ≡ false
  blank_child (InContainer c goes_on) = refl
  blank_child InList = refl

  -- an ending of a name among blocks
  spread_ending : (h : Holder) (name : Name) (b : Block) (bs : Blocks) (ns : Nodes) (node : Node) (line : ℕ) → is_ending b ≡ true
      → node_name node ≡ name → has (holder_child h) name ≡ false → AreSpread text (holder_child h) bs ns line
      → AreSpread text (holder_child h) (join bs (one_block b)) (append ns (one node)) (line + 1)
  spread_ending h name b bs ns node line is named other spread =
      subst (λ (xs : Nodes). AreSpread text (holder_child h) (join bs (one_block b)) xs (line + 1)) (followed_is ns node) (
      spread_blocks_compose.quiet text (holder_child h) (join bs (one_block b)) ns (line + 1) node (ap (has (holder_child h)) named ∙ other) (
      spread_blocks_compose.ending text (holder_child h) bs ns line b is spread))

  not_item : (name : Name) (node : Node) → node_name node ≡ name → same_name name n.ListItem ≡ false → node_name node ≡ n.ListItem → ⊥
  not_item name node is other item = true≢false (ap (λ (a : Name). same_name a n.ListItem) (sym item ∙ is) ∙ other)

  loose_ending : (h : Holder) (name : Name) (b : Block) (bs : Blocks) (ns : Nodes) (node : Node) → is_ending b ≡ true → node_name node ≡ name
      → same_name name n.ListItem ≡ false → IsLooseAs text h bs ns → IsLooseAs text h (join bs (one_block b)) (append ns (one node))
  loose_ending (InContainer c goes_on) name b bs ns node is named other loose = tt
  loose_ending InList name b bs ns node is named other loose =
      ap (has_loose_item text) (sym (followed_is ns node))
      ∙ spread_blocks_compose.other text (join bs (one_block b)) ns node (spread_blocks_compose.between text bs ns b loose is) (not_item name node named other)

  -- any ending
  at_ending : (name : Name) (b : Block) (levels : List Level) (parts : List Part) (bs : Blocks) (ns : Nodes) (node : Node) (line : ℕ) → is_ending b ≡ true
      → node_name node ≡ name → same_name name n.ListItem ≡ false → ((h : Holder) → has (holder_child h) name ≡ false)
      → ((standing : Standing) → SpellMore r text front standing b (Read standing bs b) (one node))
      → (levels ≡ [] → after_unclosed (ends_unclosed false bs) (Read on_page bs b) ≡ Read on_page bs b)
      → ((l : Level) (others : List Level) → levels ≡ l ∷ others → HasItems l.holder bs) → AreAt r text front levels parts bs ns line
      → AreAt r text front levels parts (join bs (one_block b)) (append ns (one node)) (line + 1)
  at_ending name b levels parts bs ns node line is named other child own top some was =
      at_more levels parts bs b ns (one node) line (line + 1) (own (standing_at levels)) top
      (λ l others here spread. spread_ending l.holder name b bs ns node line is named (child l.holder) spread)
      (λ l others here start. start_more l.holder (innermost parts) bs (one_block b) ns (one node) (some l others here)
      (loose_ending l.holder name b bs ns node is named other (loose_of l.holder (innermost parts) bs ns start)) start)
      was

  kept_if : (u : Bool) (bs : page.Blocks) → without_ending bs ≡ bs → after_unclosed u bs ≡ bs
  kept_if true bs same = same
  kept_if false bs same = refl

  closed_if : (u : Bool) (bs : page.Blocks) → u ≡ false → after_unclosed u bs ≡ bs
  closed_if u bs closed = ap (λ (b : Bool). after_unclosed b bs) closed

  -- nothing is written
  at_nothing : (levels : List Level) (parts : List Part) (bs : Blocks) (b : Block) (ns : Nodes) (line other : ℕ) → levels ≡ []
      → definitions (one_block b) ≡ [] → after_unclosed (ends_unclosed false bs) (Read on_page bs b) ≡ page.Nil
      → AreAt r text front levels parts bs ns line → AreAt r text front levels parts (join bs (one_block b)) ns other
  at_nothing [] parts bs b ns line other outside none nothing was =
      record {
        left = was.left;
        parts = was.parts;
        spell =
            subst (Spell r text front on_page (join bs (one_block b))) (append-none was.left) (
            spell_more r text front on_page bs b page.Nil was.left Nil
            (alike_blocks_compose.read_top r on_page bs (one_block b) refl ∙ ap (spelled.join (read_blocks r on_page bs)) nothing)
            (record { blocks = λ m m' means. tt; defined = λ m m' means. none_defined b Nil none refl m m'; sound = tt }) was.spell);
      }
  at_nothing (l ∷ levels) parts bs b ns line other outside none nothing was = absurd (true≢false (ap some_level outside))

  -- ---- leaves

  top_after : (standing : Standing) (bs : Blocks) → (standing_after standing bs).top ≡ standing.top
  top_after standing NoBlock = refl
  top_after standing (ConsBlock b bs) = top_after (next_standing standing b) bs

  after_leaf_none : (top : Bool) (leaf : LeafBlock) → after_leaf top leaf page.Nil ≡ page.Nil
  after_leaf_none false (FencedCode info is_closed ls) = refl
  after_leaf_none true (FencedCode info true ls) = refl
  after_leaf_none true (FencedCode info false ls) = refl
  after_leaf_none top (Paragraph ls) = refl
  after_leaf_none top (Heading rank ls) = refl
  after_leaf_none top Break = refl
  after_leaf_none top (IndentedCode ls) = refl
  after_leaf_none top (Html ls) = refl
  after_leaf_none top (Table ls) = refl
  after_leaf_none top (DefinitionLeaf ls label destination title) = refl

  read_one : (standing : Standing) (bs : Blocks) (leaf : LeafBlock)
      → Read standing bs (Leaf leaf) ≡ page.Cons (page.Leaf (read_leaf r (standing_after standing bs) leaf)) page.Nil
  read_one standing bs leaf =
      let there = standing_after standing bs in
      ap (page.Cons (page.Leaf (read_leaf r there leaf))) (after_leaf_none there.top leaf)

  spell_leaf : (standing : Standing) (bs : Blocks) (leaf : LeafBlock) (node : Node) → IsNodeOf r text front (standing_after standing bs) leaf node
      → SpellMore r text front standing (Leaf leaf) (Read standing bs (Leaf leaf)) (one node)
  spell_leaf standing bs leaf node own =
      record {
        blocks = λ m m' means.
            subst (λ (xs : page.Blocks). AreBlocksAlike m m' xs (blocks_of r.tables.names text standing.top (one node))) (sym (read_one standing bs leaf)) (
            subst (λ (t : Bool). AreBlocksAlike m m' (page.Cons (page.Leaf (read_leaf r (standing_after standing bs) leaf)) page.Nil)
            (blocks_of r.tables.names text t (one node))) (top_after standing bs) (own.blocks m m' means));
        defined = λ m m' means.
            subst (λ (ds : List Definition). AreDefinitionsAlike m m' ds (map (definition_of r.tables.names text) (named n.Definition (one node))))
            (sym (append-nil (leaf_definitions leaf))) (own.defined m m' means);
        sound = sound_one r.parse.constructs r.tables.names text node own.sound;
      }

  -- a block that is no item, where no list is the innermost
  spread_block : (h : Holder) (b : Block) (bs : Blocks) (ns kids : Nodes) (enter exit : Event) → is_list h ≡ false → is_ending b ≡ false
      → is_listed block_names enter.name ≡ true → (spot_of enter).index ≤ length text
      → AreSpread text (holder_child h) bs ns (line_at text (spot_of enter).index)
      → AreSpread text (holder_child h) (join bs (one_block b)) (append ns (one (Around enter kids exit))) (line_at text (spot_of exit).index)
  spread_block (InContainer c goes_on) b bs ns kids enter exit bare some is fits spread =
      subst (λ (xs : Nodes). AreSpread text BlockChild (join bs (one_block b)) xs (line_at text (spot_of exit).index))
      (followed_is ns (Around enter kids exit))
      (spread_blocks_compose.block text BlockChild bs ns b enter exit kids some is fits spread)
  spread_block InList b bs ns kids enter exit bare some is fits spread = absurd (true≢false bare)

  start_block : (h : Holder) (name : Name) (bs cs : Blocks) (ns ms : Nodes) → is_list h ≡ false → HasStart r text front h name bs ns
      → HasStart r text front h name (join bs cs) (append ns ms)
  start_block (InContainer c goes_on) name bs cs ns ms bare start = start_more (InContainer c goes_on) name bs cs ns ms tt tt start
  start_block InList name bs cs ns ms bare start = absurd (true≢false bare)

  -- a block in the innermost that is open, which is no list
  at_block : (levels : List Level) (parts : List Part) (bs : Blocks) (b : Block) (ns kids : Nodes) (enter exit : Event) → is_in_list levels ≡ false
      → is_ending b ≡ false → is_listed block_names enter.name ≡ true → (spot_of enter).index ≤ length text
      → SpellMore r text front (standing_at levels) b (Read (standing_at levels) bs b) (one (Around enter kids exit))
      → without_ending (Read on_page bs b) ≡ Read on_page bs b → AreAt r text front levels parts bs ns (line_at text (spot_of enter).index)
      → AreAt r text front levels parts (join bs (one_block b)) (append ns (one (Around enter kids exit))) (line_at text (spot_of exit).index)
  at_block levels parts bs b ns kids enter exit bare some is fits own kept was =
      let node = Around enter kids exit in
      at_more levels parts bs b ns (one node) (line_at text (spot_of enter).index) (line_at text (spot_of exit).index) own
      (λ top. kept_if (ends_unclosed false bs) (Read on_page bs b) kept)
      (λ l others here spread. spread_block l.holder b bs ns kids enter exit (ap is_in_list (sym here) ∙ bare) some is fits spread)
      (λ l others here start. start_block l.holder (innermost parts) bs (one_block b) ns (one node) (ap is_in_list (sym here) ∙ bare) start)
      was

  -- ---- containers

  start_blocks : (top : Bool) (first : Node) → IsStartName (node_name first) → blocks_of r.tables.names text top (one first) ≡ page.Nil
  start_blocks top (Around enter kids exit) (inl is) =
      let t = text_of text (Around enter kids exit) in
      ap (λ (a : Name). spelled.join (block_of r.tables.names text top a t kids (blocks_from r.tables.names text (start_of a) kids)) page.Nil) is
  start_blocks top (Around enter kids exit) (inr (inl is)) =
      let t = text_of text (Around enter kids exit) in
      ap (λ (a : Name). spelled.join (block_of r.tables.names text top a t kids (blocks_from r.tables.names text (start_of a) kids)) page.Nil) is
  start_blocks top (Around enter kids exit) (inr (inr is)) =
      let t = text_of text (Around enter kids exit) in
      ap (λ (a : Name). spelled.join (block_of r.tables.names text top a t kids (blocks_from r.tables.names text (start_of a) kids)) page.Nil) is

  start_child : (name : Name) → IsStartName name → has BlockChild name ≡ false
  start_child name (inl is) = ap (has BlockChild) is
  start_child name (inr (inl is)) = ap (has BlockChild) is
  start_child name (inr (inr is)) = ap (has BlockChild) is

  start_named : (c : Container) (goes_on : Bool) (name : Name) (first : Node) → HasStart r text front (InContainer c goes_on) name NoBlock (one first)
      → node_name first ≡ first_prefix c
  start_named Quote goes_on name first start = start
  start_named (Item item) goes_on name first start = start.0
  start_named (Footnote label) goes_on name first start = start.0

  in_first : (c : Container) (goes_on : Bool) (name : Name) (first : Node) (line : ℕ) → IsStartName (node_name first)
      → named n.Definition (one first) ≡ [] → HasStart r text front (InContainer c goes_on) name NoBlock (one first) → IsSound r.parse.constructs r.tables.names text first
      → AreIn r text front (InContainer c goes_on) name NoBlock (one first) line
  in_first c goes_on name first line is none start sound =
      record {
        spell =
            record {
              blocks = λ m m' means. subst (AreBlocksAlike m m' page.Nil) (sym (start_blocks (standing_in c).top first is)) tt;
              defined = λ m m' means.
                  subst (λ (xs : List Node). AreDefinitionsAlike m m' [] (map (definition_of r.tables.names text) xs)) (sym none) tt;
              sound = sound_one r.parse.constructs r.tables.names text first sound;
            };
        spread =
            spread_blocks_compose.quiet text BlockChild NoBlock Nil line first (start_child (node_name first) is)
            (spread_blocks_compose.none text BlockChild line);
        start = start;
      }

  in_list_first : (name : Name) (line : ℕ) → AreIn r text front InList name NoBlock Nil line
  in_list_first name line =
      record {
        spell = record { blocks = λ m m' means. tt; defined = λ m m' means. tt; sound = tt };
        spread = spread_blocks_compose.none text (Only n.ListItem) line;
        start = (refl, refl);
      }

  -- ---- ends

  -- names of what holds blocks
  pub named_other : (h : Holder) (name other : Name) → IsNamed h name → same_name n.BlockQuote other ≡ false → same_name n.ListItem other ≡ false
      → same_name n.GfmFootnoteDefinition other ≡ false → same_name n.ListOrdered other ≡ false → same_name n.ListUnordered other ≡ false
      → same_name name other ≡ false
  named_other (InContainer Quote goes_on) name other is quote item footnote ordered unordered = ap (λ (a : Name). same_name a other) is ∙ quote
  named_other (InContainer (Item i) goes_on) name other is quote item footnote ordered unordered = ap (λ (a : Name). same_name a other) is ∙ item
  named_other (InContainer (Footnote label) goes_on) name other is quote item footnote ordered unordered = ap (λ (a : Name). same_name a other) is ∙ footnote
  named_other InList name other (None, is) quote item footnote ordered unordered = ap (λ (a : Name). same_name a other) is ∙ unordered
  named_other InList name other (Some number, is) quote item footnote ordered unordered = ap (λ (a : Name). same_name a other) is ∙ ordered

  pub named_whole : (h : Holder) (enter exit : Event) (kids : Nodes) → IsNamed h enter.name → cut (Around enter kids exit) ≡ one (Around enter kids exit)
  named_whole h enter exit kids is =
      ap (λ (b : Bool). if b && is_nil kids then bytes_from enter exit else one (Around enter kids exit))
      (named_other h enter.name n.Data is refl refl refl refl refl)

  holder_defined : (h : Holder) (enter exit : Event) (kids : Nodes) → IsNamed h enter.name
      → named n.Definition (one (Around enter kids exit)) ≡ named n.Definition kids
  holder_defined h enter exit kids is =
      ap (λ (b : Bool). (if b then Around enter kids exit ∷ named n.Definition kids else named n.Definition kids) ++ [])
      (named_other h enter.name n.Definition is refl refl refl refl refl)
      ∙ append-nil (named n.Definition kids)

  holder_listed : (h : Holder) (name : Name) → IsNamed h name → is_item h ≡ false → is_listed block_names name ≡ true
  holder_listed (InContainer Quote goes_on) name is other = ap (is_listed block_names) is
  holder_listed (InContainer (Item i) goes_on) name is other = absurd (true≢false other)
  holder_listed (InContainer (Footnote label) goes_on) name is other = ap (is_listed block_names) is
  holder_listed InList name (None, is) other = ap (is_listed block_names) is
  holder_listed InList name (Some number, is) other = ap (is_listed block_names) is

  -- the container that nodes spell
  abbrev SpelledContainer : Container → Nodes → page.PageContainer
  SpelledContainer Quote ns = page.Quote
  SpelledContainer (Item item) ns = page.Item
  SpelledContainer (Footnote label) ns = page.Footnote (footnote_label r.tables.names text ns)

  container_blocks : (top : Bool) (c : Container) (goes_on : Bool) (name : Name) (bs : Blocks) (enter exit : Event) (ns : Nodes)
      → IsNamed (InContainer c goes_on) enter.name → HasStart r text front (InContainer c goes_on) name bs ns
      → blocks_of r.tables.names text top (one (Around enter ns exit))
      ≡ page.Cons (page.Holds (SpelledContainer c ns) (blocks_of r.tables.names text false ns)) page.Nil
  container_blocks top Quote goes_on name bs enter exit ns is start =
      let t = text_of text (Around enter ns exit) in
      ap (λ (a : Name). spelled.join (block_of r.tables.names text top a t ns (blocks_from r.tables.names text (start_of a) ns)) page.Nil) is
      ∙ ap (λ (inner : page.Blocks). page.Cons (page.Holds page.Quote inner) page.Nil) (from_start r.tables.names text n.BlockQuotePrefix ns start)
  container_blocks top (Item item) goes_on name bs enter exit ns is start =
      let t = text_of text (Around enter ns exit) in
      ap (λ (a : Name). spelled.join (block_of r.tables.names text top a t ns (blocks_from r.tables.names text (start_of a) ns)) page.Nil) is
      ∙ ap (λ (inner : page.Blocks). page.Cons (page.Holds page.Item inner) page.Nil) (from_start r.tables.names text n.ListItemPrefix ns start.0)
  container_blocks top (Footnote label) goes_on name bs enter exit ns is start =
      let t = text_of text (Around enter ns exit) in
      ap (λ (a : Name). spelled.join (block_of r.tables.names text top a t ns (blocks_from r.tables.names text (start_of a) ns)) page.Nil) is
      ∙ ap (λ (inner : page.Blocks). page.Cons (page.Holds (page.Footnote (footnote_label r.tables.names text ns)) inner) page.Nil)
      (from_start r.tables.names text n.GfmFootnoteDefinitionPrefix ns start.0)

  containers_alike : (c : Container) (goes_on : Bool) (name : Name) (bs : Blocks) (ns : Nodes) → HasStart r text front (InContainer c goes_on) name bs ns
      → AreContainersAlike (read_container c) (SpelledContainer c ns)
  containers_alike Quote goes_on name bs ns start = tt
  containers_alike (Item item) goes_on name bs ns start = tt
  containers_alike (Footnote label) goes_on name bs ns start = start.1

  spell_container : (standing : Standing) (before kids : Blocks) (c : Container) (goes_on : Bool) (enter exit : Event) (ns : Nodes) (line : ℕ)
      → IsNamed (InContainer c goes_on) enter.name → AreIn r text front (InContainer c goes_on) enter.name kids ns line
      → SpellMore r text front standing (Holds c kids) (Read standing before (Holds c kids)) (one (Around enter ns exit))
  spell_container standing before kids c goes_on enter exit ns line is own =
      record {
        blocks = λ m m' means.
            subst (AreBlocksAlike m m' (page.Cons (page.Holds (read_container c) (read_blocks r (standing_in c) kids)) page.Nil))
            (sym (container_blocks standing.top c goes_on enter.name kids enter exit ns is own.start)) (
              (
                containers_alike c goes_on enter.name kids ns own.start,
                subst (λ (t : Bool). AreBlocksAlike m m' (read_blocks r (standing_in c) kids) (blocks_of r.tables.names text t ns))
                    (in_container_only (InContainer c goes_on)) (own.spell.blocks m m' means),
              ),
              tt,
            );
        defined = λ m m' means.
            subst (λ (ds : List Definition).
            AreDefinitionsAlike m m' ds (map (definition_of r.tables.names text) (named n.Definition (one (Around enter ns exit)))))
            (sym (append-nil (definitions kids))) (
            subst (λ (xs : List Node). AreDefinitionsAlike m m' (definitions kids) (map (definition_of r.tables.names text) xs))
            (sym (holder_defined (InContainer c goes_on) enter exit ns is)) (own.spell.defined m m' means));
        sound = holder_sound r.parse.constructs r.tables.names text (InContainer c goes_on) enter exit ns is own.spell.sound;
      }

  -- ---- an item ends in its list

  item_number : (number : Option ℕ) (name : Name) (enter exit : Event) (ns : Nodes) → name ≡ list_name number → enter.name ≡ n.ListItem
      → HasNumber r text front number ns → number ≡ spelled_number r text front name (one (Around enter ns exit))
  item_number None name enter exit ns is item has = sym (ap (λ (a : Name). spelled_number r text front a (one (Around enter ns exit))) is)
  item_number (Some number) name enter exit ns is item has =
      let node = Around enter ns exit in
      sym (ap (λ (a : Name). spelled_number r text front a (one node)) is
      ∙ ap (λ (b : Bool). Some (number_of (text_in text n.ListItemValue (kids_in n.ListItemPrefix (inside_of (if b then Some node else None))))))
      (ap (λ (a : Name). same_name a n.ListItem) item)
      ∙ ap Some has)

  list_start_item : (name : Name) (before kids : Blocks) (item : ItemParts) (goes_on : Bool) (enter exit : Event) (ns ms : Nodes) → enter.name ≡ n.ListItem
      → IsOfList (InContainer (Item item) goes_on) name → HasNumber r text front item.number ns
      → HasListStart r text front name before ms
      → HasListStart r text front name (join before (one_block (Holds (Item item) kids))) (append ms (one (Around enter ns exit)))
  list_start_item name NoBlock kids item goes_on enter exit ns ms is of_list has start =
      subst (λ (xs : Nodes). HasListStart r text front name (one_block (Holds (Item item) kids)) (append xs (one (Around enter ns exit)))) (sym start)
      (is, item_number item.number name enter exit ns of_list.0 is has)
  list_start_item name (ConsBlock b bs) kids item goes_on enter exit ns ms is of_list has start =
      list_start_more name (ConsBlock b bs) (one_block (Holds (Item item) kids)) ms (one (Around enter ns exit)) (λ none. true≢false (ap some_block none)) start

  start_item : (h : Holder) (name : Name) (before kids : Blocks) (item : ItemParts) (goes_on : Bool) (enter exit : Event) (ns ms : Nodes) → is_list h ≡ true
      → enter.name ≡ n.ListItem → IsOfList (InContainer (Item item) goes_on) name → HasNumber r text front item.number ns
      → is_loose_item text ns ≡ has_gap kids → HasStart r text front h name before ms
      → HasStart r text front h name (join before (one_block (Holds (Item item) kids))) (append ms (one (Around enter ns exit)))
  start_item (InContainer c g) name before kids item goes_on enter exit ns ms in_list is of_list has gap start = absurd (true≢false (sym in_list))
  start_item InList name before kids item goes_on enter exit ns ms in_list is of_list has gap start = (
    list_start_item name before kids item goes_on enter exit ns ms is of_list has start.0,
    ap (has_loose_item text) (sym (followed_is ms (Around enter ns exit)))
        ∙ spread_blocks_compose.item text before kids (Item item) ms ns enter exit is gap start.1,
  )

  spread_item : (h : Holder) (before kids : Blocks) (c : Container) (enter exit : Event) (ns ms : Nodes) → is_list h ≡ true → enter.name ≡ n.ListItem
      → (spot_of enter).index ≤ length text → AreSpread text (holder_child h) before ms (line_at text (spot_of enter).index)
      → AreSpread text (holder_child h) (join before (one_block (Holds c kids))) (append ms (one (Around enter ns exit))) (line_at text (spot_of exit).index)
  spread_item (InContainer c' g) before kids c enter exit ns ms in_list is fits spread = absurd (true≢false (sym in_list))
  spread_item InList before kids c enter exit ns ms in_list is fits spread =
      subst (λ (xs : Nodes). AreSpread text (Only n.ListItem) (join before (one_block (Holds c kids))) xs (line_at text (spot_of exit).index))
      (followed_is ms (Around enter ns exit))
      (spread_blocks_compose.block text (Only n.ListItem) before ms (Holds c kids) enter exit ns refl (ap (same_name n.ListItem) is) fits spread)

  -- a container ends in what is around it
  holder_ends : (c : Container) (goes_on : Bool) (levels : List Level) (parts : List Part) (before kids : Blocks) (enter exit : Event) (ns ms : Nodes)
      (line : ℕ)
      → IsNamed (InContainer c goes_on) enter.name → (spot_of enter).index ≤ length text → is_in_list levels ≡ is_item (InContainer c goes_on)
      → IsOfList (InContainer c goes_on) (innermost parts) → AreIn r text front (InContainer c goes_on) enter.name kids ns line
      → AreAt r text front levels parts before ms (line_at text (spot_of enter).index)
      → AreAt r text front levels parts (join before (one_block (Holds c kids))) (append ms (one (Around enter ns exit))) (line_at text (spot_of exit).index)
  holder_ends (Item item) goes_on levels parts before kids enter exit ns ms line is fits stands of_list own was =
      at_more levels parts before (Holds (Item item) kids) ms (one (Around enter ns exit)) (line_at text (spot_of enter).index)
      (line_at text (spot_of exit).index)
      (spell_container (standing_at levels) before kids (Item item) goes_on enter exit ns line is own)
      (λ top. kept_if (ends_unclosed false before) (Read on_page before (Holds (Item item) kids)) refl)
      (λ l others here spread. spread_item l.holder before kids (Item item) enter exit ns ms (ap is_in_list (sym here) ∙ stands) is fits spread)
      (λ l others here start. start_item l.holder (innermost parts) before kids item goes_on enter exit ns ms (ap is_in_list (sym here) ∙ stands) is
      of_list own.start.1 own.spread.apart start)
      was
  holder_ends Quote goes_on levels parts before kids enter exit ns ms line is fits stands of_list own was =
      at_block levels parts before (Holds Quote kids) ms ns enter exit stands refl (holder_listed (InContainer Quote goes_on) enter.name is refl) fits
      (spell_container (standing_at levels) before kids Quote goes_on enter exit ns line is own) refl was
  holder_ends (Footnote label) goes_on levels parts before kids enter exit ns ms line is fits stands of_list own was =
      at_block levels parts before (Holds (Footnote label) kids) ms ns enter exit stands refl
      (holder_listed (InContainer (Footnote label) goes_on) enter.name is refl) fits
      (spell_container (standing_at levels) before kids (Footnote label) goes_on enter exit ns line is own) refl was

  -- its row is filled, and one more slot of what is around it
  holder_fills : (c : Container) (goes_on : Bool) (levels : List Level) (name : Name) (before kids : Blocks) (enter exit : Event) (ns ms : Nodes)
      → IsNamed (InContainer c goes_on) enter.name → is_in_list levels ≡ is_item (InContainer c goes_on) → IsOfList (InContainer c goes_on) name
      → FillAt (level (InContainer c goes_on) before ∷ levels) enter.name kids ns → FillAt levels name before ms
      → FillAt levels name (join before (one_block (Holds c kids))) (append ms (one (Around enter ns exit)))
  holder_fills (Item item) goes_on levels name before kids enter exit ns ms is stands of_list own was =
      filled.at_item levels name before kids item goes_on ms (Around enter ns exit) stands of_list is
      (container_filled (Item item) goes_on kids enter exit ns is own) was
  holder_fills Quote goes_on levels name before kids enter exit ns ms is stands of_list own was =
      filled.at_block levels name before (join before (one_block (Holds Quote kids))) ms (Around enter ns exit) stands
      (holder_listed (InContainer Quote goes_on) enter.name is refl) (container_filled Quote goes_on kids enter exit ns is own) was
  holder_fills (Footnote label) goes_on levels name before kids enter exit ns ms is stands of_list own was =
      filled.at_block levels name before (join before (one_block (Holds (Footnote label) kids))) ms (Around enter ns exit) stands
      (holder_listed (InContainer (Footnote label) goes_on) enter.name is refl) (container_filled (Footnote label) goes_on kids enter exit ns is own) was

  -- ---- lists

  list_started : (name : Name) (bs : Blocks) (ns : Nodes) → (bs ≡ NoBlock → ⊥) → HasListStart r text front name bs ns
      → BeginWith n.ListItem ns × (list_number bs ≡ spelled_number r text front name ns)
  list_started name NoBlock ns some start = absurd (some refl)
  list_started name (ConsBlock b bs) ns some start = start

  list_blocks : (top : Bool) (enter exit : Event) (ns : Nodes) → IsNamed InList enter.name → BeginWith n.ListItem ns
      → blocks_of r.tables.names text top (one (Around enter ns exit))
      ≡ page.Cons (page.ItemList (spelled_number r text front enter.name ns) (is_loose_list text true ns) (blocks_of r.tables.names text false ns)) page.Nil
  list_blocks top enter exit ns (None, is) begins =
      let t = text_of text (Around enter ns exit) in
      ap (λ (a : Name). spelled.join (block_of r.tables.names text top a t ns (blocks_from r.tables.names text (start_of a) ns)) page.Nil) is
      ∙ ap (λ (inner : page.Blocks). page.Cons (page.ItemList None (is_loose_list text true ns) inner) page.Nil)
      (from_start r.tables.names text n.ListItem ns begins)
      ∙ sym (ap (λ (a : Name).
      page.Cons (page.ItemList (spelled_number r text front a ns) (is_loose_list text true ns) (blocks_of r.tables.names text false ns)) page.Nil)
      is)
  list_blocks top enter exit ns (Some number, is) begins =
      let t = text_of text (Around enter ns exit) in
      ap (λ (a : Name). spelled.join (block_of r.tables.names text top a t ns (blocks_from r.tables.names text (start_of a) ns)) page.Nil) is
      ∙ ap (λ (inner : page.Blocks). page.Cons (page.ItemList (Some (spelled.list_number r.tables.names text ns)) (is_loose_list text true ns) inner) page.Nil)
      (from_start r.tables.names text n.ListItem ns begins)
      ∙ sym (ap (λ (a : Name).
      page.Cons (page.ItemList (spelled_number r text front a ns) (is_loose_list text true ns) (blocks_of r.tables.names text false ns)) page.Nil)
      is)

  spell_list : (standing : Standing) (before items : Blocks) (enter exit : Event) (ns : Nodes) (line : ℕ) → IsNamed InList enter.name
      → (items ≡ NoBlock → ⊥) → AreIn r text front InList enter.name items ns line
      → SpellMore r text front standing (Items items) (Read standing before (Items items)) (one (Around enter ns exit))
  spell_list standing before items enter exit ns line is some own =
      let started = list_started enter.name items ns some own.start.0 in
      record {
        blocks = λ m m' means.
            subst (AreBlocksAlike m m' (page.Cons (page.ItemList (list_number items) (is_loose items) (read_blocks r in_container items)) page.Nil))
            (sym (list_blocks standing.top enter exit ns is started.0))
            ((started.1, sym (ap₂ (λ (a b : Bool). a || b) own.spread.apart own.start.1), own.spell.blocks m m' means), tt);
        defined = λ m m' means.
            subst (λ (ds : List Definition).
            AreDefinitionsAlike m m' ds (map (definition_of r.tables.names text) (named n.Definition (one (Around enter ns exit)))))
            (sym (append-nil (definitions items))) (
            subst (λ (xs : List Node). AreDefinitionsAlike m m' (definitions items) (map (definition_of r.tables.names text) xs))
            (sym (holder_defined InList enter exit ns is)) (own.spell.defined m m' means));
        sound = holder_sound r.parse.constructs r.tables.names text InList enter exit ns is own.spell.sound;
      }

  joined_some : (bs : Blocks) (b : Block) → join bs (one_block b) ≡ NoBlock → ⊥
  joined_some NoBlock b none = true≢false (ap some_block none)
  joined_some (ConsBlock c bs) b none = true≢false (ap some_block none)

  -- ---- what is open

  container_end_by : (c : Container) (goes_on : Bool) (before kids : Blocks) (levels : List Level) (parts : List Part) (ns : Nodes) (exit : Event)
      (places : List Place)
      → AreAt r text front (level (InContainer c goes_on) before ∷ levels) parts kids ns (line_at text (spot_of exit).index)
      → AreOpen r text front (level (InContainer c goes_on) before ∷ levels) parts
      → FillAt (level (InContainer c goes_on) before ∷ levels) (innermost parts) kids ns
      → Spells r text front (opened (join before (one_block (Holds c kids))) levels places) (exited (growth ns parts) exit) (line_at text (spot_of exit).index)
  container_end_by c goes_on before kids levels [] ns exit places own there fill = absurd there
  container_end_by c goes_on before kids levels (part ∷ parts) ns exit places own there fill =
      record {
        kids =
            subst (λ (xs : Nodes).
            AreAt r text front levels parts (join before (one_block (Holds c kids))) (append part.before xs) (line_at text (spot_of exit).index))
            (sym (named_whole (InContainer c goes_on) part.enter exit ns there.0))
            (holder_ends c goes_on levels parts before kids part.enter exit ns part.before
            (line_at text (spot_of exit).index) there.0 there.1 there.2 there.3 own there.4);
        around = there.5;
        fill =
            subst (λ (xs : Nodes). FillAt levels (innermost parts) (join before (one_block (Holds c kids))) (append part.before xs))
            (sym (named_whole (InContainer c goes_on) part.enter exit ns there.0))
            (holder_fills c goes_on levels (innermost parts) before kids part.enter exit ns part.before there.0 there.2 there.3 fill there.6);
      }

  list_end_by : (before kids : Blocks) (levels : List Level) (parts : List Part) (ns : Nodes) (exit : Event) (places : List Place) → (kids ≡ NoBlock → ⊥)
      → AreAt r text front (level InList before ∷ levels) parts kids ns (line_at text (spot_of exit).index)
      → AreOpen r text front (level InList before ∷ levels) parts → FillAt (level InList before ∷ levels) (innermost parts) kids ns
      → Spells r text front (opened (join before (one_block (Items kids))) levels places) (exited (growth ns parts) exit) (line_at text (spot_of exit).index)
  list_end_by before kids levels [] ns exit places some own there fill = absurd there
  list_end_by before kids levels (part ∷ parts) ns exit places some own there fill =
      record {
        kids =
            subst (λ (xs : Nodes).
            AreAt r text front levels parts (join before (one_block (Items kids))) (append part.before xs) (line_at text (spot_of exit).index))
            (sym (named_whole InList part.enter exit ns there.0))
            (at_block levels parts before (Items kids) part.before ns part.enter exit there.2 refl (holder_listed InList part.enter.name there.0 refl) there.1
            (spell_list (standing_at levels) before kids part.enter exit ns (line_at text (spot_of exit).index) there.0 some own) refl there.4);
        around = there.5;
        fill =
            subst (λ (xs : Nodes). FillAt levels (innermost parts) (join before (one_block (Items kids))) (append part.before xs))
            (sym (named_whole InList part.enter exit ns there.0))
            (filled.at_block levels (innermost parts) before (join before (one_block (Items kids))) part.before (Around part.enter ns exit) there.2
            (holder_listed InList part.enter.name there.0 refl) (list_filled kids part.enter exit ns there.0 some fill) there.6);
      }

  ending_top : (bs : Blocks) (e : LineEnding) → ends_unclosed false bs ≡ false
      → after_unclosed (ends_unclosed false bs) (Read on_page bs (Ending (Some e))) ≡ Read on_page bs (Ending (Some e))
  ending_top bs e closed = closed_if (ends_unclosed false bs) (Read on_page bs (Ending (Some e))) closed

  kept_leaf : (bs : Blocks) (leaf : LeafBlock) → without_ending (Read on_page bs (Leaf leaf)) ≡ Read on_page bs (Leaf leaf)
  kept_leaf bs leaf = refl

  pub levels_go_on : LevelsGoOn r text front
  levels_go_on = record {
    mute = λ o g line ns are begun was. record {
      kids = at_mute o.outer g.outer o.kids g.kids ns line are (λ l others here. items_by l.holder o (ap is_in_list here) begun) was.kids;
      around = was.around;
      fill =
          subst (λ (bs : Blocks). FillAt o.outer (innermost g.outer) bs (append g.kids ns)) (join-none o.kids)
          (filled.at_between o.outer (innermost g.outer) o.kids NoBlock g.kids ns (λ l others here. items_by l.holder o (ap is_in_list here) begun)
          (mute_between ns are) was.fill);
    };
    ending = λ o g line e node is closed begun was. record {
      kids =
          at_ending n.LineEnding (Ending (Some e)) o.outer g.outer o.kids g.kids node line refl is.named refl ending_child
          (λ standing. spell_ending standing o.kids e node is) (λ top. ending_top o.kids e (closed top))
          (λ l others here. items_by l.holder o (ap is_in_list here) begun) was.kids;
      around = was.around;
      fill =
          filled.at_between o.outer (innermost g.outer) o.kids (one_block (Ending (Some e))) g.kids (one node)
          (λ l others here. items_by l.holder o (ap is_in_list here) begun) (ending_between text e node is) was.fill;
    };
    in_code = λ o g line other e outside unclosed was. record {
      kids =
          at_nothing o.outer g.outer o.kids (Ending (Some e)) g.kids line other outside refl
          (ap (λ (u : Bool). after_unclosed u (Read on_page o.kids (Ending (Some e)))) unclosed) was.kids;
      around = was.around;
      fill = filled.at_nothing o.outer (innermost g.outer) o.kids (join o.kids (one_block (Ending (Some e)))) g.kids outside was.fill;
    };
    no_ending = λ o g line other outside was. record {
      kids = at_nothing o.outer g.outer o.kids (Ending None) g.kids line other outside refl (kept_if (ends_unclosed false o.kids) page.Nil refl) was.kids;
      around = was.around;
      fill = filled.at_nothing o.outer (innermost g.outer) o.kids (join o.kids (one_block (Ending None))) g.kids outside was.fill;
    };
    blank = λ o g line e node is begun was. record {
      kids =
          at_ending n.BlankLineEnding (Blank (Some e)) o.outer g.outer o.kids g.kids node line refl is.named refl blank_child
          (λ standing. spell_blank standing o.kids e node is)
          (λ top. kept_if (ends_unclosed false o.kids) (Read on_page o.kids (Blank (Some e))) refl)
          (λ l others here. items_by l.holder o (ap is_in_list here) begun) was.kids;
      around = was.around;
      fill =
          filled.at_between o.outer (innermost g.outer) o.kids (one_block (Blank (Some e))) g.kids (one node)
          (λ l others here. items_by l.holder o (ap is_in_list here) begun) (blank_between text e node is) was.fill;
    };
    no_blank = λ o g line other outside was. record {
      kids = at_nothing o.outer g.outer o.kids (Blank None) g.kids line other outside refl (kept_if (ends_unclosed false o.kids) page.Nil refl) was.kids;
      around = was.around;
      fill = filled.at_nothing o.outer (innermost g.outer) o.kids (join o.kids (one_block (Blank None))) g.kids outside was.fill;
    };
    leaf = λ o g leaf enter exit kids bare own fits was. record {
      kids =
          at_block o.outer g.outer o.kids (Leaf leaf) g.kids kids enter exit bare refl own.is_block fits
          (spell_leaf (standing_at o.outer) o.kids leaf (Around enter kids exit) own) (kept_leaf o.kids leaf) was.kids;
      around = was.around;
      fill =
          filled.at_block o.outer (innermost g.outer) o.kids (join o.kids (one_block (Leaf leaf))) g.kids (Around enter kids exit) bare own.is_block own.filled
          was.fill;
    };
    container = λ o g line c goes_on enter first stands is of_list fits start none has fill sound was. record {
      kids = in_first c goes_on enter.name first line start none has sound;
      around = (is, fits, stands, of_list, was.kids, was.around, was.fill);
      fill = filled.in_first c goes_on enter.name first is (start_named c goes_on enter.name first has) fill;
    };
    list = λ o g line number enter bare is fits was. record {
      kids = in_list_first enter.name line;
      around = ((number, is), fits, bare, tt, was.kids, was.around, was.fill);
      fill = filled.in_list_first enter.name;
    };
    container_ends = λ o g c goes_on before levels exit is was.
        container_end_by c goes_on before o.kids levels g.outer g.kids exit o.places
        (subst (λ (ls : List Level). AreAt r text front ls g.outer o.kids g.kids (line_at text (spot_of exit).index)) is was.kids)
        (subst (λ (ls : List Level). AreOpen r text front ls g.outer) is was.around)
        (subst (λ (ls : List Level). FillAt ls (innermost g.outer) o.kids g.kids) is was.fill);
    list_ends = λ o g before items item levels exit is last was.
        list_end_by before o.kids levels g.outer g.kids exit o.places
        (λ none. joined_some items item (sym last ∙ none))
        (subst (λ (ls : List Level). AreAt r text front ls g.outer o.kids g.kids (line_at text (spot_of exit).index)) is was.kids)
        (subst (λ (ls : List Level). AreOpen r text front ls g.outer) is was.around)
        (subst (λ (ls : List Level). FillAt ls (innermost g.outer) o.kids g.kids) is was.fill);
  }

pub always_go_on : LevelsAlwaysGoOn
always_go_on = λ r text front. levels_go_on r text front
