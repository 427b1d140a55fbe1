-- What is written of a link reference definition (CommonMark 4.7).
use Rattle.std.specs.Prelude.{◌≡◌, ℕ, List, [], ◌∷◌, ◌++◌, Option, None, Some}
use Rattle.engine_events.specs.declared.event.Name.TheVariants as n
use Rattle.markdown_options.specs.declared.configuration.Constructs.{Constructs}
use Rattle.definition_text.specs.Columns.{Code}
use Rattle.definition_text.specs.Content.{Part, content_codes}
use Rattle.definition_inline.specs.CharacterReference.{Names}
use Rattle.definition_inline.specs.Definition.{Definition, definition_at, next_line}
use Rattle.definition_inline.specs.Destination.{destination_at}
use Rattle.definition_inline.specs.Space.{after_spaces, after_white}
use Rattle.definition_inline.specs.Strings.{string_text}
use Rattle.definition_inline.specs.Title.{title_at}
use Rattle.event_grammar.specs.declared.slot.Between.{Between}
use Rattle.event_grammar.specs.declared.slot.Form.TheVariants.{Plain}
use Rattle.event_grammar.specs.declared.slot.Slot.{Slot}
use Rattle.event_grammar.specs.Grammar.{one as one_slot, opt, row}
use Rattle.event_grammar.specs.References.{label_text, named}
use Rattle.event_grammar.specs.Trees.{Node, Nodes}
use Rattle.event_meaning.specs.Children.{child, kids_in}
use Rattle.event_meaning.specs.Strings.{string_of}
use Rattle.parse_alike.specs.LabelMatch.{HaveSameWords}
use Rattle.parse_alike.specs.Strings.{HaveTextsOfBytes, IsOfBytes}
use Rattle.parse_lines.specs.declared.walk.Walk.{Walk}
use Rattle.parse_lines.specs.InContent.{IsWhole, Stop, WritesInContent}
use Rattle.parse_slots.specs.Left.{MayEndLines}
use Rattle.parse_references.specs.Sound.{AreSound}
use Rattle.parse_links.specs.Tails.{FillsTo, MayEnd, title_string}

-- codes that begin with a label are a definition, and no line follows it
pub record IsDefinition (cs : List Code) (d : Definition) : Type 0 where
  pub read : definition_at cs ≡ Some d
  pub bare : after_spaces cs ≡ cs
  pub last : d.rest ≡ []

-- codes behind a destination have a title, if there is one, and after it only spaces and tabs, and no line that follows
abbrev pub EndsWithTitle : Option (List Code) → List Code → Type 0
EndsWithTitle None cs = next_line cs ≡ Some []
EndsWithTitle (Some title) cs = (read : Part) × (title_at (after_white cs) ≡ Some read) × (title ≡ read.text) × (next_line read.rest ≡ Some [])

-- codes are a destination, and what is behind it
pub record IsTarget (cs destination : List Code) (title : Option (List Code)) : Type 0 where
  pub place : Part
  pub read : destination_at None cs ≡ Some place
  pub destination_is : destination ≡ place.text
  pub ends : EndsWithTitle title place.rest

-- what a definition holds after its label and colon, and after its destination
abbrev pub end_slots : List Slot
end_slots = opt n.DefinitionTitle ∷ []

abbrev pub place_slots : List Slot
place_slots = one_slot n.DefinitionDestination ∷ end_slots

abbrev pub FillsEnd : Between → Nodes → Type 0
FillsEnd = FillsTo end_slots MayEnd

abbrev pub FillsPlace : Between → Nodes → Type 0
FillsPlace = FillsTo place_slots MayEnd

abbrev pub FillsDefinition : Between → Nodes → Type 0
FillsDefinition = FillsTo (row n.Definition Plain) MayEnd

-- nodes are written that spell something and fill slots, up to white space at the end of a definition
pub record WritesParts {A : Type 0} (on : Constructs) (names : Names) (text content : List ℕ) (Spells : Nodes → Type 0) (Fills : Between → Nodes → Type 0)
    (stop : Stop) (old new : Walk A) : Type 0 where
  pub front : List ℕ
  pub after : List ℕ
  pub parts : content ≡ front ++ after
  pub last : next_line (content_codes after) ≡ Some []
  pub nodes : Nodes
  pub writes : WritesInContent text front nodes after stop old new
  pub whole : IsWhole new
  pub spells : Spells nodes
  pub fill : (around : Between) → MayEndLines around front → Fills around nodes
  pub sound : AreSound on names text nodes

module _ (on : Constructs) (names : Names) (text : List ℕ) where
  -- what the nodes in a destination spell, with brackets or without
  abbrev pub place_within : Nodes → List ℕ
  place_within kids =
      string_of names text (kids_in n.DefinitionDestinationString (kids_in n.DefinitionDestinationLiteral kids))
      ++ string_of names text (kids_in n.DefinitionDestinationString (kids_in n.DefinitionDestinationRaw kids))

  -- what the destination among nodes spells
  abbrev pub place_of : Nodes → List ℕ
  place_of ns = place_within (kids_in n.DefinitionDestination ns)

  -- nodes spell a title, or no title
  pub record SpellsEnd (read : Option (List Code)) (ns : Nodes) : Type 0 where
    pub title : string_of names text (kids_in n.DefinitionTitleString (kids_in n.DefinitionTitle ns)) ≡ title_string on names read
    pub title_bytes : HaveTextsOfBytes names → IsOfBytes (title_string on names read)
    pub definitions : named n.Definition ns ≡ []

  -- nodes spell a destination and a title
  pub record SpellsPlace (read : List Code) (title : Option (List Code)) (ns : Nodes) : Type 0 where
    pub destination : place_of ns ≡ string_text on names read
    pub destination_bytes : HaveTextsOfBytes names → IsOfBytes (string_text on names read)
    pub end : SpellsEnd title ns

  -- nodes have the label of a definition, and spell its destination and its title
  pub record SpellsDefinition (d : Definition) (ns : Nodes) : Type 0 where
    pub string : Node
    pub found : child n.DefinitionLabelString (kids_in n.DefinitionLabel ns) ≡ Some string
    pub words : HaveSameWords d.label (content_codes (label_text text string))
    pub place : SpellsPlace d.destination d.title ns
