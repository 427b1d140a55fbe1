-- What is written of a heading by `#` (CommonMark 4.2).
use Rattle.std.specs.Prelude.{◌≡◌, ℕ, true, false, List, [], ◌∷◌, Option, None, Some, drop}
use Rattle.std.specs.List.{list_all}
use Rattle.definition_text.specs.Ascii.{number_sign}
use Rattle.definition_text.specs.Columns.{indent, is_white}
use Rattle.definition_text.specs.Runs.{after_run}
use Rattle.markdown_options.specs.declared.configuration.Constructs.{Constructs}
use Rattle.markdown_options.specs.declared.line_ending.LineEnding.{LineEnding}
use Rattle.engine_events.specs.declared.event.Name.TheVariants as n
use Rattle.definition_inline.specs.CharacterReference.{Names}
use Rattle.definition_inline.specs.Inline.{Inlines, Nil as NoInlines}
use Rattle.definition_page.specs.InlinePieces.{Meaning}
use Rattle.event_grammar.specs.declared.slot.Between.TheVariants.{Spaces}
use Rattle.event_grammar.specs.declared.slot.Form.TheVariants.{Plain}
use Rattle.event_grammar.specs.declared.slot.Slot.{Slot}
use Rattle.event_grammar.specs.Grammar.{opt}
use Rattle.event_grammar.specs.References.{named}
use Rattle.event_grammar.specs.Slots.{may_end, take_child}
use Rattle.event_grammar.specs.Trees.{Nodes}
use Rattle.event_meaning.specs.Texts.{text_within}
use Rattle.parse_output.specs.Forest.{append}
use Rattle.parse_slots.specs.Left.{took}
use Rattle.parse_references.specs.Sound.{AreSound}
use Rattle.parse_alike.specs.Inline.{ArePartsAlike}
use Rattle.parse_laid.specs.Places.{LineRest}
use Rattle.parse_lines.specs.declared.walk.Walk.{Walk}
use Rattle.parse_inline.specs.Texts.{AreMeanings}
use Rattle.parse_raw.specs.Before.{WritesOnLine}
use Rattle.parse_links.specs.Tails.{FillsTo, MayEnd}

-- what is left of the row of a heading after its first sequence
abbrev pub atx_rest : List Slot
atx_rest = opt n.HeadingAtxText ∷ opt n.HeadingAtxSequence ∷ []

-- A row takes a closing sequence as its last child, or none.
pub record TakesClosing (slots : List Slot) : Type 0 where
  pub sequence : take_child slots n.HeadingAtxSequence ≡ Some (took Plain [])
  pub space : take_child slots n.SpaceOrTab ≡ None
  pub may : may_end slots ≡ true

-- The text of a heading is written in an event, or nothing if it is empty, and these bytes are left of the line.
pub record WritesHeadingText {A : Type 0} (on : Constructs) (names : Names) (text : List ℕ) (is : Inlines) (ending : Option LineEnding) (left : List LineRest)
    (behind : List ℕ) (old new : Walk A) : Type 0 where
  pub nodes : Nodes
  pub line : WritesOnLine text ending left nodes behind old new
  pub spells : (others : Nodes) → text_within names text false others ≡ NoInlines → (m m' : Meaning) → AreMeanings on names m m'
      → ArePartsAlike m m' is (text_within names text false (append nodes others))
  pub definitions : named n.Definition nodes ≡ []
  pub fill : FillsTo atx_rest TakesClosing Spaces nodes
  pub sound : AreSound on names text nodes

-- spaces and tabs, a run of `#`, and again spaces and tabs: what may follow the text
abbrev pub EndsHeading : List ℕ → Type 0
EndsHeading bytes = list_all is_white (after_run number_sign (drop (indent bytes) bytes)) ≡ true

-- What follows the text is written, up to the end of the line, and spells nothing.
pub record WritesClosing {A : Type 0} (text : List ℕ) (ending : Option LineEnding) (left : List LineRest) (old new : Walk A) : Type 0 where
  pub nodes : Nodes
  pub line : WritesOnLine text ending left nodes [] old new
  pub none : (names : Names) → text_within names text false nodes ≡ NoInlines
  pub definitions : named n.Definition nodes ≡ []
  pub fill : (slots : List Slot) → TakesClosing slots → FillsTo slots MayEnd Spaces nodes
