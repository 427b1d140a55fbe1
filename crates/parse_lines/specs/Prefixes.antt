-- The first prefixes of containers, as nodes (CommonMark 5.1 and 5.2).
use Rattle.std.specs.Prelude.{◌≡◌, ℕ, false, List, [], ◌∷◌, Option, None, Some}
use Rattle.engine_events.specs.Names.{is_listed}
use Rattle.engine_events.specs.declared.event.Name.{Name}
use Rattle.engine_events.specs.declared.event.Name.TheVariants as n
use Rattle.definition_text.specs.Columns.{Code}
use Rattle.definition_block.specs.Container.{Container, Quote, Item, Footnote}
use Rattle.definition_block.specs.ListItem.{number_of}
use Rattle.definition_inline.specs.CharacterReference.{Names}
use Rattle.event_grammar.specs.declared.slot.Between.TheVariants.{Spaces}
use Rattle.event_grammar.specs.declared.slot.Form.{Form}
use Rattle.event_grammar.specs.declared.slot.Form.TheVariants.{Ordered, Plain}
use Rattle.event_grammar.specs.Grammar.{row}
use Rattle.event_grammar.specs.InGrammar.{kids_of, node_name}
use Rattle.event_grammar.specs.References.{named}
use Rattle.event_grammar.specs.Trees.{Node}
use Rattle.event_meaning.specs.Blocks.{label_of}
use Rattle.event_meaning.specs.Children.{child, kids_in, text_in}
use Rattle.parse_output.specs.Forest.{one}
use Rattle.parse_slots.specs.Left.{Fill}
use Rattle.parse_lines.specs.Quiet.{IsQuotePrefix}

-- what is in the prefix of an item
abbrev pub item_names : List Name
item_names = n.ListItemPrefix ∷ n.ListItemValue ∷ n.ListItemMarker ∷ n.SpaceOrTab ∷ []

-- what is in the prefix of a footnote definition
abbrev pub footnote_names : List Name
footnote_names =
    n.GfmFootnoteDefinitionPrefix ∷ n.GfmFootnoteDefinitionLabel ∷ n.GfmFootnoteDefinitionLabelMarker ∷ n.GfmFootnoteDefinitionMarker
    ∷ n.GfmFootnoteDefinitionLabelString ∷ n.Data ∷ n.DefinitionMarker ∷ n.SpaceOrTab ∷ []

-- the form of an item and of its prefix: with a number or without
abbrev pub item_form : Option ℕ → Form
item_form None = Plain
item_form (Some number) = Ordered

-- the prefix of an item, with its number if it has one; its row is filled
pub record IsItemPrefix (number : Option ℕ) (text : List ℕ) (node : Node) : Type 0 where
  pub is_named : node_name node ≡ n.ListItemPrefix
  pub value : (k : ℕ) → number ≡ Some k → number_of (text_in text n.ListItemValue (kids_of node)) ≡ k
  pub others : (name : Name) → is_listed item_names name ≡ false → named name (one node) ≡ []
  pub fill : Fill Spaces (row n.ListItemPrefix (item_form number)) (kids_of node) []

-- the label of a footnote definition with its brackets
pub record IsFootnoteLabel (label : List Code) (text : List ℕ) (node : Node) : Type 0 where
  pub is_named : node_name node ≡ n.GfmFootnoteDefinitionLabel
  pub label_is : (names : Names) → label_of names text (child n.GfmFootnoteDefinitionLabelString (kids_of node)) ≡ label
  pub others : (name : Name) → is_listed footnote_names name ≡ false → named name (one node) ≡ []
  pub fill : Fill Spaces (row n.GfmFootnoteDefinitionLabel Plain) (kids_of node) []

-- the prefix of a footnote definition, with its label
pub record IsFootnotePrefix (label : List Code) (text : List ℕ) (node : Node) : Type 0 where
  pub is_named : node_name node ≡ n.GfmFootnoteDefinitionPrefix
  pub label_is : (names : Names) → label_of names text (child n.GfmFootnoteDefinitionLabelString (kids_in n.GfmFootnoteDefinitionLabel (kids_of node))) ≡ label
  pub others : (name : Name) → is_listed footnote_names name ≡ false → named name (one node) ≡ []
  pub fill : Fill Spaces (row n.GfmFootnoteDefinitionPrefix Plain) (kids_of node) []

-- the first prefix of a container
abbrev pub IsPrefixOf : List ℕ → Container → Node → Type 0
IsPrefixOf text Quote node = IsQuotePrefix node
IsPrefixOf text (Item item) node = IsItemPrefix item.number text node
IsPrefixOf text (Footnote label) node = IsFootnotePrefix label text node
