-- Rows of the grammar in what is open, after one more row or a part of its nodes.
use Rattle.std.proofs.Common.{◌≡◌, inl, inr, ℕ, Bool, true, false, if◌then◌else◌, List, [], ◌∷◌, Option, None, Some, refl, sym, ap, ◌∙◌, subst}
use Rattle.std.proofs.lemmas.Bool.{cases_Bool, cond-false}
use Rattle.parse_open.proofs.Prelude.{append, AreMute, Around, Blocks, block_names, ConsBlock, Container, Event, Footnote, Holder, Holds, InContainer, InList}
use Rattle.parse_open.proofs.Prelude.{is_in_list, is_listed, IsEndingNode, Item, ItemParts, join, Level, LineEnding, Name, Nil, NoBlock, Node, node_name, Nodes, one}
use Rattle.parse_open.proofs.Prelude.{one_block, Quote, same_name, the_type, true≢false}
use denote.Enum.Bare.{same_true}
use Rattle.engine_events.specs.declared.event.Name.TheVariants as n
use Rattle.event_grammar.specs.declared.slot.Between.TheVariants.{Lines}
use Rattle.event_grammar.specs.declared.slot.Child.TheVariants.{Block as BlockChild}
use Rattle.event_grammar.specs.declared.slot.Form.TheVariants.{Ordered, Plain}
use Rattle.event_grammar.specs.declared.slot.Slot.{Slot}
use Rattle.event_grammar.specs.declared.slot.Slot.TheVariants.{Many}
use Rattle.event_grammar.specs.Grammar.{document_row, opt, row}
use Rattle.event_grammar.specs.Slots.{taken}
use Rattle.event_grammar.specs.Trees.{Cons}
use Rattle.parse_output.specs.declared.end.End.{End}
use Rattle.parse_output.specs.Ends.{enter_at, exit_at, same_end}
use Rattle.parse_output.specs.Forest.{void_nodes}
use Rattle.parse_slots.specs.Left.{ends, Fill, IsFilled, left_by, TakesNoBetween}
use Rattle.parse_slots.proofs.Steps.{fill_between, fill_both, fill_none, fill_taken, filled_by, filled_void}
use Rattle.parse_open.specs.Filled.{FillAt, FillBefore, FillIn, FillOnPage, first_prefix, holder_form, list_left, marker_list, number_form}
use Rattle.parse_open.specs.Filled.{TakesBlocks}
use Rattle.parse_open.specs.Levels.{IsNamed, IsOfList, list_name}
use Rattle.parse_open.specs.Open.{first_marker, is_list}

-- ---- what takes blocks

blocks_between : TakesNoBetween (Many BlockChild ∷ [])
blocks_between = record { space = refl; ending = refl; blank = refl; quote = refl }

pub takes_blocks : TakesBlocks (Many BlockChild ∷ [])
takes_blocks = record {
  block = λ name listed. ap (λ (b : Bool). if b then Some (taken BlockChild (Many BlockChild ∷ [])) else None) listed;
  between = blocks_between;
  ends = refl;
}

-- the name of a block is no other
block_apart : (other name : Name) → is_listed block_names other ≡ false → is_listed block_names name ≡ true → same_name other name ≡ false
block_apart other name none listed =
    elim (cases_Bool (same_name other name)) [
      | inl same ↦ absurd (true≢false (sym listed ∙ sym (ap (is_listed block_names) (same_true the_type tt other name same)) ∙ none))
      | inr apart ↦ apart
    ]

-- frontmatter may be before blocks
pub takes_frontmatter : TakesBlocks (opt n.Frontmatter ∷ Many BlockChild ∷ [])
takes_frontmatter = record {
  block = λ name listed.
      cond-false (same_name n.Frontmatter name) _ _ (block_apart n.Frontmatter name refl listed) ∙ takes_blocks.block name listed;
  between = record { space = refl; ending = refl; blank = refl; quote = refl };
  ends = refl;
}

-- and a byte order mark before that
pub takes_mark : TakesBlocks document_row
takes_mark = record {
  block = λ name listed.
      cond-false (same_name n.ByteOrderMark name) _ _ (block_apart n.ByteOrderMark name refl listed) ∙ takes_frontmatter.block name listed;
  between = record { space = refl; ending = refl; blank = refl; quote = refl };
  ends = refl;
}

-- ---- nodes that stand between

-- nodes that leave any row as it is that takes none of what stands between
abbrev pub StandBetween : Nodes → Type 0
StandBetween ms = (slots : List Slot) → TakesNoBetween slots → Fill Lines slots ms slots

pub mute_between : (ms : Nodes) → AreMute ms → StandBetween ms
mute_between Nil are slots takes = fill_none Lines slots
mute_between (Cons node ms) (inl is, none, more, filled) slots takes =
    fill_both (fill_between Lines slots n.SpaceOrTab node is takes.space refl filled) (mute_between ms more slots takes)
mute_between (Cons node ms) (inr is, none, more, filled) slots takes =
    fill_both (fill_between Lines slots n.BlockQuotePrefix node is takes.quote refl filled) (mute_between ms more slots takes)

pub ending_between : (text : List ℕ) (e : LineEnding) (node : Node) → IsEndingNode text n.LineEnding e node → StandBetween (one node)
ending_between text e node is slots takes =
    fill_between Lines slots n.LineEnding node is.named takes.ending refl (filled_void Lines Plain n.LineEnding node is.named is.empty refl)

pub blank_between : (text : List ℕ) (e : LineEnding) (node : Node) → IsEndingNode text n.BlankLineEnding e node → StandBetween (one node)
blank_between text e node is slots takes =
    fill_between Lines slots n.BlankLineEnding node is.named takes.blank refl (filled_void Lines Plain n.BlankLineEnding node is.named is.empty refl)

-- a list that is the innermost has an item that is finished
abbrev pub HasItems : Holder → Blocks → Type 0
HasItems (InContainer c goes_on) bs = Unit {0}
HasItems InList bs = bs ≡ NoBlock → ⊥

items_between : (name : Name) → TakesNoBetween (list_left name)
items_between n.ListOrdered = record { space = refl; ending = refl; blank = refl; quote = refl }
items_between name = record { space = refl; ending = refl; blank = refl; quote = refl }

in_between : (h : Holder) (name : Name) (bs cs : Blocks) (ns ms : Nodes) → HasItems h bs → StandBetween ms → FillIn h name bs ns
    → FillIn h name (join bs cs) (append ns ms)
in_between (InContainer c goes_on) name bs cs ns ms some between was =
    record { fill = fill_both was.fill (between (Many BlockChild ∷ []) blocks_between); marked = tt }
in_between InList name NoBlock cs ns ms some between was = absurd (some refl)
in_between InList name (ConsBlock b bs) cs ns ms some between was =
    record { fill = fill_both was.fill (between (list_left name) (items_between name)); marked = was.marked }

pub at_between : (levels : List Level) (name : Name) (bs cs : Blocks) (ns ms : Nodes)
    → ((l : Level) (others : List Level) → levels ≡ l ∷ others → HasItems l.holder bs) → StandBetween ms → FillAt levels name bs ns
    → FillAt levels name (join bs cs) (append ns ms)
at_between [] name bs cs ns ms some between was =
    record { left = was.left; fill = fill_both was.fill (between was.left was.takes.between); takes = was.takes }
at_between (l ∷ levels) name bs cs ns ms some between was = in_between l.holder name bs cs ns ms (some l levels refl) between was

-- ---- blocks

in_block : (h : Holder) (name : Name) (bs cs : Blocks) (ns : Nodes) (node : Node) → is_list h ≡ false → is_listed block_names (node_name node) ≡ true
    → IsFilled Lines Plain node → FillIn h name bs ns → FillIn h name cs (append ns (one node))
in_block (InContainer c goes_on) name bs cs ns node bare listed filled was = record {
  fill =
      fill_both was.fill
      (fill_taken Lines (Many BlockChild ∷ []) (node_name node) Plain (Many BlockChild ∷ []) node refl (takes_blocks.block (node_name node) listed) filled);
  marked = tt;
}
in_block InList name bs cs ns node bare listed filled was = absurd (true≢false bare)

-- one more block where no list is the innermost
pub at_block : (levels : List Level) (name : Name) (bs cs : Blocks) (ns : Nodes) (node : Node) → is_in_list levels ≡ false
    → is_listed block_names (node_name node) ≡ true → IsFilled Lines Plain node → FillAt levels name bs ns → FillAt levels name cs (append ns (one node))
at_block [] name bs cs ns node bare listed filled was = record {
  left = Many BlockChild ∷ [];
  fill =
      fill_both was.fill
      (fill_taken Lines was.left (node_name node) Plain (Many BlockChild ∷ []) node refl (was.takes.block (node_name node) listed) filled);
  takes = takes_blocks;
}
at_block (l ∷ levels) name bs cs ns node bare listed filled was = in_block l.holder name bs cs ns node bare listed filled was

abbrev some_level : List Level → Bool
some_level [] = false
some_level (l ∷ levels) = true

-- no node is written outside of containers
pub at_nothing : (levels : List Level) (name : Name) (bs cs : Blocks) (ns : Nodes) → levels ≡ [] → FillAt levels name bs ns → FillAt levels name cs ns
at_nothing [] name bs cs ns outside was = was
at_nothing (l ∷ levels) name bs cs ns outside was = absurd (true≢false (ap some_level outside))

-- ---- items

-- the first item of a list
first_taken : (name : Name) (number : Option ℕ) (node : Node) → name ≡ list_name number → node_name node ≡ n.ListItem
    → IsFilled Lines (number_form number) node → Fill Lines (row name Plain) (one node) (list_left name)
first_taken name None node is named filled =
    subst (λ (a : Name). Fill Lines (row a Plain) (one node) (list_left a)) (sym is)
    (fill_taken Lines (row n.ListUnordered Plain) n.ListItem Plain (list_left n.ListUnordered) node named refl filled)
first_taken name (Some k) node is named filled =
    subst (λ (a : Name). Fill Lines (row a Plain) (one node) (list_left a)) (sym is)
    (fill_taken Lines (row n.ListOrdered Plain) n.ListItem Ordered (list_left n.ListOrdered) node named refl filled)

-- one more
next_taken : (name : Name) (number : Option ℕ) (node : Node) → name ≡ list_name number → node_name node ≡ n.ListItem
    → IsFilled Lines (number_form number) node → Fill Lines (list_left name) (one node) (list_left name)
next_taken name None node is named filled =
    subst (λ (a : Name). Fill Lines (list_left a) (one node) (list_left a)) (sym is)
    (fill_taken Lines (list_left n.ListUnordered) n.ListItem Plain (list_left n.ListUnordered) node named refl filled)
next_taken name (Some k) node is named filled =
    subst (λ (a : Name). Fill Lines (list_left a) (one node) (list_left a)) (sym is)
    (fill_taken Lines (list_left n.ListOrdered) n.ListItem Ordered (list_left n.ListOrdered) node named refl filled)

in_item : (h : Holder) (name : Name) (bs kids : Blocks) (item : ItemParts) (goes_on : Bool) (ns : Nodes) (node : Node) → is_list h ≡ true
    → IsOfList (InContainer (Item item) goes_on) name → node_name node ≡ n.ListItem → IsFilled Lines (number_form item.number) node → FillIn h name bs ns
    → FillIn h name (join bs (one_block (Holds (Item item) kids))) (append ns (one node))
in_item (InContainer c g) name bs kids item goes_on ns node in_list of_list is filled was = absurd (true≢false (sym in_list))
in_item InList name NoBlock kids item goes_on ns node in_list of_list is filled was =
    record { fill = fill_both was.fill (first_taken name item.number node of_list.0 is filled); marked = of_list.1 }
in_item InList name (ConsBlock b bs) kids item goes_on ns node in_list of_list is filled was =
    record { fill = fill_both was.fill (next_taken name item.number node of_list.0 is filled); marked = was.marked }

-- one more item in the innermost list
pub at_item : (levels : List Level) (name : Name) (bs kids : Blocks) (item : ItemParts) (goes_on : Bool) (ns : Nodes) (node : Node)
    → is_in_list levels ≡ true → IsOfList (InContainer (Item item) goes_on) name → node_name node ≡ n.ListItem
    → IsFilled Lines (number_form item.number) node → FillAt levels name bs ns
    → FillAt levels name (join bs (one_block (Holds (Item item) kids))) (append ns (one node))
at_item [] name bs kids item goes_on ns node in_list of_list is filled was = absurd (true≢false (sym in_list))
at_item (l ∷ levels) name bs kids item goes_on ns node in_list of_list is filled was =
    in_item l.holder name bs kids item goes_on ns node in_list of_list is filled was

-- the name of a list is told by the marker of its first item
marked_in : (h : Holder) (name : Name) (bs : Blocks) (ns : Nodes) → is_list h ≡ true → (bs ≡ NoBlock → ⊥) → FillIn h name bs ns
    → name ≡ marker_list (first_marker bs)
marked_in (InContainer c goes_on) name bs ns in_list some was = absurd (true≢false (sym in_list))
marked_in InList name NoBlock ns in_list some was = absurd (some refl)
marked_in InList name (ConsBlock b bs) ns in_list some was = was.marked

pub list_marked : (levels : List Level) (name : Name) (bs : Blocks) (ns : Nodes) → is_in_list levels ≡ true → (bs ≡ NoBlock → ⊥) → FillAt levels name bs ns
    → name ≡ marker_list (first_marker bs)
list_marked [] name bs ns in_list some was = absurd (true≢false (sym in_list))
list_marked (l ∷ levels) name bs ns in_list some was = marked_in l.holder name bs ns in_list some was

-- ---- starts

item_starts : (number : Option ℕ) (first : Node) → node_name first ≡ n.ListItemPrefix → IsFilled Lines (number_form number) first
    → Fill Lines (row n.ListItem (number_form number)) (one first) (Many BlockChild ∷ [])
item_starts None first begins filled =
    fill_taken Lines (row n.ListItem Plain) n.ListItemPrefix Plain (Many BlockChild ∷ []) first begins refl filled
item_starts (Some k) first begins filled =
    fill_taken Lines (row n.ListItem Ordered) n.ListItemPrefix Ordered (Many BlockChild ∷ []) first begins refl filled

-- a container begins with its prefix
pub in_first : (c : Container) (goes_on : Bool) (name : Name) (first : Node) → IsNamed (InContainer c goes_on) name → node_name first ≡ first_prefix c
    → IsFilled Lines (holder_form (InContainer c goes_on)) first → FillIn (InContainer c goes_on) name NoBlock (one first)
in_first Quote goes_on name first is begins filled = record {
  fill =
      subst (λ (a : Name). Fill Lines (row a Plain) (one first) (Many BlockChild ∷ [])) (sym is)
      (fill_taken Lines (row n.BlockQuote Plain) n.BlockQuotePrefix Plain (Many BlockChild ∷ []) first begins refl filled);
  marked = tt;
}
in_first (Item item) goes_on name first is begins filled = record {
  fill =
      subst (λ (a : Name). Fill Lines (row a (number_form item.number)) (one first) (Many BlockChild ∷ [])) (sym is)
      (item_starts item.number first begins filled);
  marked = tt;
}
in_first (Footnote label) goes_on name first is begins filled = record {
  fill =
      subst (λ (a : Name). Fill Lines (row a Plain) (one first) (Many BlockChild ∷ [])) (sym is)
      (fill_taken Lines (row n.GfmFootnoteDefinition Plain) n.GfmFootnoteDefinitionPrefix Plain (Many BlockChild ∷ []) first begins refl filled);
  marked = tt;
}

-- a list begins with nothing
pub in_list_first : (name : Name) → FillIn InList name NoBlock Nil
in_list_first name = record { fill = fill_none Lines (row name Plain); marked = tt }

-- ---- ends

item_filled : (number : Option ℕ) (enter exit : Event) (ns : Nodes) → enter.name ≡ n.ListItem
    → Fill Lines (row n.ListItem (number_form number)) ns (Many BlockChild ∷ []) → IsFilled Lines (number_form number) (Around enter ns exit)
item_filled None enter exit ns is fill = filled_by Lines Plain n.ListItem (Many BlockChild ∷ []) (Around enter ns exit) is fill refl
item_filled (Some k) enter exit ns is fill = filled_by Lines Ordered n.ListItem (Many BlockChild ∷ []) (Around enter ns exit) is fill refl

-- a container that ends fills its row
pub container_filled : (c : Container) (goes_on : Bool) (bs : Blocks) (enter exit : Event) (ns : Nodes) → IsNamed (InContainer c goes_on) enter.name
    → FillIn (InContainer c goes_on) enter.name bs ns → IsFilled Lines (holder_form (InContainer c goes_on)) (Around enter ns exit)
container_filled Quote goes_on bs enter exit ns is was =
    filled_by Lines Plain n.BlockQuote (Many BlockChild ∷ []) (Around enter ns exit) is
    (subst (λ (a : Name). Fill Lines (row a Plain) ns (Many BlockChild ∷ [])) is was.fill) refl
container_filled (Item item) goes_on bs enter exit ns is was =
    item_filled item.number enter exit ns is
    (subst (λ (a : Name). Fill Lines (row a (number_form item.number)) ns (Many BlockChild ∷ [])) is was.fill)
container_filled (Footnote label) goes_on bs enter exit ns is was =
    filled_by Lines Plain n.GfmFootnoteDefinition (Many BlockChild ∷ []) (Around enter ns exit) is
    (subst (λ (a : Name). Fill Lines (row a Plain) ns (Many BlockChild ∷ [])) is was.fill) refl

-- and so does a list with items
pub list_filled : (bs : Blocks) (enter exit : Event) (ns : Nodes) → IsNamed InList enter.name → (bs ≡ NoBlock → ⊥) → FillIn InList enter.name bs ns
    → IsFilled Lines Plain (Around enter ns exit)
list_filled NoBlock enter exit ns is some was = absurd (some refl)
list_filled (ConsBlock b bs) enter exit ns (None, is) some was =
    filled_by Lines Plain n.ListUnordered (list_left n.ListUnordered) (Around enter ns exit) is
    (subst (λ (a : Name). Fill Lines (row a Plain) ns (list_left a)) is was.fill) refl
list_filled (ConsBlock b bs) enter exit ns (Some k, is) some was =
    filled_by Lines Plain n.ListOrdered (list_left n.ListOrdered) (Around enter ns exit) is
    (subst (λ (a : Name). Fill Lines (row a Plain) ns (list_left a)) is was.fill) refl

-- ---- the document

-- where nothing is open after all rows of a document, its nodes fill its row
pub page_filled : (ns : Nodes) → FillOnPage ns → ends (left_by Lines document_row ns) ≡ true
page_filled ns was = ap ends was.fill.left ∙ was.takes.ends

-- ---- in front of the blocks

void_mark : (b : Bool) (from to : Event) → from.name ≡ n.ByteOrderMark → FillBefore (if b then Nil else one (Around from Nil to))
void_mark true from to is =
    record { left = document_row; fill = fill_none Lines document_row; takes = record { front = refl; blocks = takes_mark } }
void_mark false from to is = record {
  left = opt n.Frontmatter ∷ Many BlockChild ∷ [];
  fill =
      fill_taken Lines document_row n.ByteOrderMark Plain (opt n.Frontmatter ∷ Many BlockChild ∷ []) (Around from Nil to) is refl
      (filled_void Lines Plain n.ByteOrderMark (Around from Nil to) is refl refl);
  takes = record { front = refl; blocks = takes_frontmatter };
}

-- a byte order mark, if there is one
pub mark_fill : (text : List ℕ) (from to : End) → FillBefore (void_nodes text n.ByteOrderMark from to)
mark_fill text from to = void_mark (same_end to from) (enter_at text n.ByteOrderMark from) (exit_at text n.ByteOrderMark to) refl

-- no frontmatter
pub before_page : (ns : Nodes) → FillBefore ns → FillOnPage ns
before_page ns was = record { left = was.left; fill = was.fill; takes = was.takes.blocks }

-- frontmatter, and the ending of its last line if that has one
pub front_fill : (before space ending : Nodes) (node : Node) → FillBefore before → StandBetween space → node_name node ≡ n.Frontmatter
    → IsFilled Lines Plain node → StandBetween ending → FillOnPage (append before (append space (append (one node) ending)))
front_fill before space ending node was white is filled last = record {
  left = Many BlockChild ∷ [];
  fill =
      fill_both was.fill (fill_both (white was.left was.takes.blocks.between) (
      fill_both (fill_taken Lines was.left n.Frontmatter Plain (Many BlockChild ∷ []) node is was.takes.front filled)
      (last (Many BlockChild ∷ []) blocks_between)));
  takes = takes_blocks;
}
