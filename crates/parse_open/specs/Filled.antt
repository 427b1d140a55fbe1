-- Which slots of their rows of the grammar the nodes leave that are written so far, in what is open and in the document (CommonMark 5).
use Rattle.std.specs.Prelude.{◌≡◌, ◌==◌, ◌||◌, ℕ, true, if◌then◌else◌, List, [], ◌∷◌, Option, None, Some}
use Rattle.definition_text.specs.Ascii.{dot, right_parenthesis}
use Rattle.engine_events.specs.Names.{is_listed}
use Rattle.engine_events.specs.declared.event.Name.{Name}
use Rattle.engine_events.specs.declared.event.Name.TheVariants as n
use Rattle.definition_block.specs.Container.{Container, Quote, Item, Footnote}
use Rattle.definition_block.specs.Lists.{item_marker}
use Rattle.definition_block.specs.Tree.{Blocks, Nil as NoBlock, Cons as ConsBlock}
use Rattle.event_grammar.specs.declared.slot.Between.TheVariants.{Lines}
use Rattle.event_grammar.specs.declared.slot.Child.TheVariants.{As, Block}
use Rattle.event_grammar.specs.declared.slot.Form.{Form}
use Rattle.event_grammar.specs.declared.slot.Form.TheVariants.{Ordered, Plain}
use Rattle.event_grammar.specs.declared.slot.Slot.{Slot}
use Rattle.event_grammar.specs.declared.slot.Slot.TheVariants.{Many}
use Rattle.event_grammar.specs.Grammar.{block_names, document_row, many, row}
use Rattle.event_grammar.specs.Slots.{may_end, take_child}
use Rattle.event_grammar.specs.Trees.{Nodes}
use Rattle.parse_slots.specs.Left.{Fill, TakesNoBetween, took}
use Rattle.parse_open.specs.Open.{Holder, InContainer, InList, Level}

-- the form of an item and of its prefix: with a number or without
abbrev pub number_form : Option ℕ → Form
number_form None = Plain
number_form (Some number) = Ordered

abbrev pub holder_form : Holder → Form
holder_form (InContainer Quote goes_on) = Plain
holder_form (InContainer (Item item) goes_on) = number_form item.number
holder_form (InContainer (Footnote label) goes_on) = Plain
holder_form InList = Plain

-- the name of the prefix that a container begins with
abbrev pub first_prefix : Container → Name
first_prefix Quote = n.BlockQuotePrefix
first_prefix (Item item) = n.ListItemPrefix
first_prefix (Footnote label) = n.GfmFootnoteDefinitionPrefix

-- the name of a list, by the marker of its items (CommonMark 5.2)
abbrev pub marker_list : ℕ → Name
marker_list marker = if (marker == dot) || (marker == right_parenthesis) then n.ListOrdered else n.ListUnordered

-- after the first item of a list there may be more
abbrev pub list_left : Name → List Slot
list_left n.ListOrdered = Many (As n.ListItem Ordered) ∷ []
list_left name = many n.ListItem ∷ []

-- What is left of the row of a holder after its first prefix and these blocks: any number of blocks; in a list, of items.
abbrev pub holder_left : Holder → Name → Blocks → List Slot
holder_left (InContainer c goes_on) name bs = Many Block ∷ []
holder_left InList name NoBlock = row name Plain
holder_left InList name (ConsBlock b bs) = list_left name

-- the first item of a list has a marker by which lists of this name are told
abbrev pub IsMarked : Holder → Name → Blocks → Type 0
IsMarked (InContainer c goes_on) name bs = Unit {0}
IsMarked InList name NoBlock = Unit {0}
IsMarked InList name (ConsBlock b bs) = name ≡ marker_list (item_marker b)

-- nodes in a holder of this name leave what these blocks leave
pub record FillIn (holder : Holder) (name : Name) (bs : Blocks) (ns : Nodes) : Type 0 where
  pub fill : Fill Lines (row name (holder_form holder)) ns (holder_left holder name bs)
  pub marked : IsMarked holder name bs

-- A row takes a block next, and then any number of them. White space, the endings of lines and the prefixes of quotes stand between, and the row may end.
pub record TakesBlocks (slots : List Slot) : Type 0 where
  pub block : (name : Name) → is_listed block_names name ≡ true → take_child slots name ≡ Some (took Plain (Many Block ∷ []))
  pub between : TakesNoBetween slots
  pub ends : may_end slots ≡ true

-- a row takes frontmatter next, and then blocks, or blocks alone
pub record TakesFront (slots : List Slot) : Type 0 where
  pub front : take_child slots n.Frontmatter ≡ Some (took Plain (Many Block ∷ []))
  pub blocks : TakesBlocks slots

-- nodes before frontmatter leave slots that take it: at most a byte order mark
pub record FillBefore (ns : Nodes) : Type 0 where
  pub left : List Slot
  pub fill : Fill Lines document_row ns left
  pub takes : TakesFront left

-- nodes in the document leave slots that take blocks: a byte order mark and frontmatter are before these
pub record FillOnPage (ns : Nodes) : Type 0 where
  pub left : List Slot
  pub fill : Fill Lines document_row ns left
  pub takes : TakesBlocks left

-- nodes in the innermost that is open, which has this name, or in the document
abbrev pub FillAt : List Level → Name → Blocks → Nodes → Type 0
FillAt [] name bs ns = FillOnPage ns
FillAt (l ∷ levels) name bs ns = FillIn l.holder name bs ns
