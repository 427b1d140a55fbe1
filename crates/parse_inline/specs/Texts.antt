-- What is written of a text: its inline structure (CommonMark 6).
use Rattle.std.specs.Prelude.{◌≡◌, ℕ, false, List, drop}
use Rattle.markdown_options.specs.declared.configuration.Constructs.{Constructs}
use Rattle.definition_inline.specs.CharacterReference.{Names}
use Rattle.definition_inline.specs.Inline.{Inlines}
use Rattle.definition_page.specs.InlinePieces.{Meaning}
use Rattle.definition_text.specs.InlineCode.{InlineCode}
use Rattle.event_grammar.specs.declared.slot.Between.{Between}
use Rattle.event_grammar.specs.Grammar.{text_row}
use Rattle.event_grammar.specs.Trees.{Nodes}
use Rattle.event_meaning.specs.Texts.{inlines_of}
use Rattle.parse_lines.specs.declared.walk.Walk.{Walk}
use Rattle.parse_lines.specs.InContent.{IsWhole, StandsInContent, Stop, WritesInContent}
use Rattle.parse_slots.specs.Left.{Fill, MayEndLines}
use Rattle.parse_references.specs.Sound.{AreSound}
use Rattle.parse_strings.specs.Plain.{ArePlain}
use Rattle.parse_alike.specs.Inline.{ArePartsAlike}
pub use Rattle.parse_alike.specs.Meanings.{AreMeanings}
use Rattle.parse_written.specs.Bytes.{AreBytesAt}

-- nodes are parts of a text, as the grammar has them, wherever the bytes that they are written for may stand
abbrev pub FillsText : List ℕ → Nodes → Type 0
FillsText bytes nodes = (around : Between) → MayEndLines around bytes → Fill around text_row nodes text_row

-- nodes are written for the first of these bytes, which spell inline structure that is alike, and the others are ahead
pub record WritesText {A : Type 0} (on : Constructs) (names : Names) (text front : List ℕ) (is : Inlines) (content : List ℕ) (stop : Stop) (old new : Walk A)
    : Type 0 where
  pub nodes : Nodes
  pub writes : WritesInContent text front nodes content stop old new
  pub spells : (m m' : Meaning) → AreMeanings on names m m' → ArePartsAlike m m' is (inlines_of names text false nodes)
  pub plain : ArePlain nodes
  pub fill : FillsText front nodes
  pub sound : AreSound on names text nodes

-- a walk stands in a text: these bytes of the content are ahead, which are at a place of it
pub record StandsInText {A : Type 0} (text content bytes : List ℕ) (at : List InlineCode) (stop : Stop) (w : Walk A) : Type 0 where
  pub stands : StandsInContent text bytes stop w
  pub whole : IsWhole w
  pub ahead : bytes ≡ drop w.place content
  pub codes : AreBytesAt bytes at
