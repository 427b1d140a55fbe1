-- What is written behind the label of a link or an image: a resource, a reference, or nothing (CommonMark 6.3).
use Rattle.std.specs.Prelude.{◌≡◌, ◌<◌, ℕ, Bool, true, false, ◌==◌, ◌&&◌, if◌then◌else◌, List, [], ◌∷◌, ◌++◌, Option, None, Some, codes, drop, is_some}
use Rattle.std.specs.Prelude.{length, slice_index}
use Rattle.engine_events.specs.declared.event.Name.TheVariants as n
use Rattle.markdown_options.specs.declared.configuration.Constructs.{Constructs}
use Rattle.definition_text.specs.Ascii.{left_bracket, right_bracket}
use Rattle.definition_text.specs.Bytes.{begins_with}
use Rattle.definition_text.specs.Columns.{Code}
use Rattle.definition_text.specs.Content.{Part, content_codes}
use Rattle.definition_inline.specs.CharacterReference.{Names}
use Rattle.definition_inline.specs.Label.{label_at}
use Rattle.definition_inline.specs.Resource.{LinkResource}
use Rattle.definition_inline.specs.Space.{after_white}
use Rattle.definition_inline.specs.Strings.{string_text}
use Rattle.event_grammar.specs.declared.slot.Between.{Between}
use Rattle.event_grammar.specs.declared.slot.Child.TheVariants.{Either}
use Rattle.event_grammar.specs.declared.slot.Form.TheVariants.{Plain}
use Rattle.event_grammar.specs.declared.slot.Slot.{Slot}
use Rattle.event_grammar.specs.declared.slot.Slot.TheVariants.{Opt}
use Rattle.event_grammar.specs.Grammar.{one as one_slot, opt}
use Rattle.event_grammar.specs.References.{label_text, named, own}
use Rattle.event_grammar.specs.Slots.{may_end, take_child}
use Rattle.event_grammar.specs.Trees.{Node, Nodes}
use Rattle.event_meaning.specs.Children.{inside_of}
use Rattle.event_meaning.specs.Strings.{string_of}
use Rattle.parse_alike.specs.LabelMatch.{HaveSameWords}
use Rattle.parse_alike.specs.Strings.{HaveTextsOfBytes, IsOfBytes}
use Rattle.parse_lines.specs.declared.walk.Walk.{Walk}
use Rattle.parse_lines.specs.InContent.{IsWhole, Stop, WritesInContent}
use Rattle.parse_slots.specs.Left.{Fill, MayEndLines, took}
use Rattle.parse_references.specs.Sound.{AreSound}

-- the text of a title; no title has an empty one
abbrev pub title_string : Constructs → Names → Option (List Code) → List ℕ
title_string on names None = []
title_string on names (Some title) = string_text on names title

-- nodes spell the destination and the title of a resource; `text` are the bytes of the document
pub record SpellsResource (on : Constructs) (names : Names) (text : List ℕ) (read : LinkResource) (ns : Nodes) : Type 0 where
  pub is_there : is_some (own n.Resource ns) ≡ true
  pub destination : string_of names text (inside_of (own n.ResourceDestinationString ns)) ≡ string_text on names read.destination
  pub title : string_of names text (inside_of (own n.ResourceTitleString ns)) ≡ title_string on names read.title
  pub destination_bytes : HaveTextsOfBytes names → IsOfBytes (string_text on names read.destination)
  pub title_bytes : HaveTextsOfBytes names → IsOfBytes (title_string on names read.title)
  pub definitions : named n.Definition ns ≡ []
  pub columns : named n.GfmTableDelimiterCellValue ns ≡ []

-- nodes spell a title, and no destination
pub record SpellsTitle (on : Constructs) (names : Names) (text : List ℕ) (read : List Code) (ns : Nodes) : Type 0 where
  pub title : string_of names text (inside_of (own n.ResourceTitleString ns)) ≡ string_text on names read
  pub title_bytes : HaveTextsOfBytes names → IsOfBytes (string_text on names read)
  pub no_destination : own n.ResourceDestinationString ns ≡ None
  pub definitions : named n.Definition ns ≡ []
  pub columns : named n.GfmTableDelimiterCellValue ns ≡ []

-- nodes spell what is between the parentheses of a resource
pub record SpellsTarget (on : Constructs) (names : Names) (text : List ℕ) (read : LinkResource) (ns : Nodes) : Type 0 where
  pub destination : string_of names text (inside_of (own n.ResourceDestinationString ns)) ≡ string_text on names read.destination
  pub title : string_of names text (inside_of (own n.ResourceTitleString ns)) ≡ title_string on names read.title
  pub destination_bytes : HaveTextsOfBytes names → IsOfBytes (string_text on names read.destination)
  pub title_bytes : HaveTextsOfBytes names → IsOfBytes (title_string on names read.title)
  pub definitions : named n.Definition ns ≡ []
  pub columns : named n.GfmTableDelimiterCellValue ns ≡ []

-- the string of a reference has the words of its label, if a label is read
abbrev pub HasLabel : List ℕ → Option Part → Option Node → Type 0
HasLabel text None string = string ≡ None
HasLabel text (Some label) string = (node : Node) × (string ≡ Some node) × HaveSameWords label.text (content_codes (label_text text node))

-- nodes have the label of a full reference; a collapsed one, and a shortcut, have none
pub record SpellsReference (text : List ℕ) (label : Option Part) (ns : Nodes) : Type 0 where
  pub is_none : own n.Resource ns ≡ None
  pub string : HasLabel text label (own n.ReferenceString ns)
  pub definitions : named n.Definition ns ≡ []
  pub columns : named n.GfmTableDelimiterCellValue ns ≡ []

-- what follows a reference, where a label is read or isn't
abbrev pub after_reference : Option Part → List Code → List Code
after_reference None content = if begins_with (codes "[]") content then drop 2 content else content
after_reference (Some label) content = label.rest

-- ---- the rows of the grammar

-- nodes lead a row from these slots to some at which it may go on, or end
pub record FillsTo (slots : List Slot) (Ends : List Slot → Type 0) (around : Between) (ns : Nodes) : Type 0 where
  pub rest : List Slot
  pub fill : Fill around slots ns rest
  pub ends : Ends rest

abbrev pub MayEnd : List Slot → Type 0
MayEnd rest = may_end rest ≡ true

-- what may follow the label of a link or an image
abbrev pub tail_slots : List Slot
tail_slots = Opt (Either n.Reference n.Resource) ∷ []

abbrev pub FillsTail : Between → Nodes → Type 0
FillsTail = FillsTo tail_slots MayEnd

-- what a resource holds after its first marker, and after its destination
abbrev pub title_slots : List Slot
title_slots = opt n.ResourceTitle ∷ one_slot n.ResourceMarker ∷ []

abbrev pub target_slots : List Slot
target_slots = opt n.ResourceDestination ∷ title_slots

-- the last marker may follow, and then nothing
abbrev pub MayClose : List Slot → Type 0
MayClose rest = take_child rest n.ResourceMarker ≡ Some (took Plain [])

abbrev pub FillsTarget : Between → Nodes → Type 0
FillsTarget = FillsTo target_slots MayClose

abbrev pub FillsTitle : Between → Nodes → Type 0
FillsTitle = FillsTo title_slots MayClose

-- ---- what is written

-- nodes are written that spell something and fill slots, up to what has these codes
pub record WritesTail {A : Type 0} (on : Constructs) (names : Names) (text content : List ℕ) (Spells : Nodes → Type 0) (Fills : Between → Nodes → Type 0)
    (left : List Code) (stop : Stop) (old new : Walk A) : Type 0 where
  pub front : List ℕ
  pub after : List ℕ
  pub parts : content ≡ front ++ after
  pub rest : content_codes after ≡ left
  pub nodes : Nodes
  pub writes : WritesInContent text front nodes after stop old new
  pub whole : IsWhole new
  pub spells : Spells nodes
  pub fill : (around : Between) → MayEndLines around front → Fills around nodes
  pub sound : AreSound on names text nodes

-- two brackets come first
abbrev pub is_collapsed : List ℕ → Bool
is_collapsed bytes = (slice_index bytes 0 == left_bracket) && (slice_index (drop 1 bytes) 0 == right_bracket)

-- neither a label nor two brackets come first
pub record IsShortcut (bytes : List ℕ) : Type 0 where
  pub label : label_at (content_codes bytes) ≡ None
  pub other : is_collapsed bytes ≡ false

-- the string of a reference has the codes of its label, or is empty
abbrev pub HasCodes : Option Part → List ℕ → Type 0
HasCodes None string = string ≡ []
HasCodes (Some label) string = (content_codes string ≡ label.text) × (0 < length string)

-- a reference with its brackets is the front of a content
pub record FrontsReference (bytes front : List ℕ) : Type 0 where
  pub string : List ℕ
  pub after : List ℕ
  pub parts : bytes ≡ front ++ after
  pub form : front ≡ left_bracket ∷ (string ++ right_bracket ∷ [])
  pub codes : HasCodes (label_at (content_codes bytes)) string
  pub left : content_codes after ≡ after_reference (label_at (content_codes bytes)) (content_codes bytes)

-- a destination and the white space after it are written, up to a rest
pub record WritesPlace {A : Type 0} (on : Constructs) (names : Names) (text : List ℕ) (place : Part) (content left : List ℕ) (stop : Stop) (old new : Walk A)
    : Type 0 where
  pub front : List ℕ
  pub parts : content ≡ front ++ left
  pub codes : content_codes left ≡ after_white place.rest
  pub nodes : Nodes
  pub writes : WritesInContent text front nodes left stop old new
  pub whole : IsWhole new
  pub destination : string_of names text (inside_of (own n.ResourceDestinationString nodes)) ≡ string_text on names place.text
  pub destination_bytes : HaveTextsOfBytes names → IsOfBytes (string_text on names place.text)
  pub no_title : own n.ResourceTitleString nodes ≡ None
  pub definitions : named n.Definition nodes ≡ []
  pub columns : named n.GfmTableDelimiterCellValue nodes ≡ []
  pub fill : (around : Between) → MayEndLines around front → Fill around target_slots nodes title_slots
  pub sound : AreSound on names text nodes
