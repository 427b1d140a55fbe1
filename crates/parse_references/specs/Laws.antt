-- Nodes lead on where what they spell is alike to inline structure of a text (CommonMark 6.3).
use Rattle.std.specs.Prelude.{◌≡◌, ℕ, Bool, false, List, None}
use Rattle.definition_text.specs.Columns.{Code}
use Rattle.definition_text.specs.InlineCode.{InlineCode}
use Rattle.definition_inline.specs.CharacterReference.{Names}
use Rattle.definition_inline.specs.Inline.{Inlines}
use Rattle.definition_inline.specs.Scan.{InlineContext, inlines_from}
use Rattle.definition_page.specs.GfmTable.{in_cell}
use Rattle.definition_page.specs.InlinePieces.{Meaning}
use Rattle.event_grammar.specs.declared.slot.Between.{Between}
use Rattle.event_grammar.specs.Grammar.{text_row}
use Rattle.event_grammar.specs.References.{first_lost, footnote_labels, link_labels}
use Rattle.event_grammar.specs.Trees.{Nodes}
use Rattle.event_meaning.specs.Texts.{inlines_of}
use Rattle.parse_output.specs.Forest.{append}
use Rattle.parse_slots.specs.Left.{Fill}
use Rattle.parse_alike.specs.Inline.{ArePartsAlike}
use Rattle.parse_references.specs.Leads.{AreLabelsOf, HoldBareCalls, LeadOn, PartsLead}

-- the inline structure of every content leads on, and so does that of a cell
pub record ContentsLead : Type 0 where
  pub content : (context : InlineContext) (content : List InlineCode)
      → PartsLead context.is_defined context.is_footnote false (inlines_from context content)
  pub cell : (is_defined is_footnote : List Code → Bool) (linked : Bool) (is : Inlines) → PartsLead is_defined is_footnote linked is
      → PartsLead is_defined is_footnote linked (in_cell is)

-- Nodes that fill the row of a text lead on, if what they spell is alike to inline structure that does, by labels that are among these.
abbrev pub TextsLeadOn : Type 0
TextsLeadOn =
    (names : Names) (bytes : List ℕ) (links footnotes : List (List ℕ)) (is_defined is_footnote : List Code → Bool) (m m' : Meaning) (around : Between)
    (linked : Bool) (is : Inlines) (ns : Nodes)
    → AreLabelsOf is_defined is_footnote links footnotes → PartsLead is_defined is_footnote linked is
    → ArePartsAlike m m' is (inlines_of names bytes linked ns) → Fill around text_row ns text_row → HoldBareCalls ns
    → LeadOn bytes links footnotes linked ns

-- nodes lead on if both parts of them do, and no definition is missing in what leads on by its own labels
pub record NodesLeadOn : Type 0 where
  pub both : (bytes : List ℕ) (links footnotes : List (List ℕ)) (linked : Bool) (ns ms : Nodes) → LeadOn bytes links footnotes linked ns
      → LeadOn bytes links footnotes linked ms → LeadOn bytes links footnotes linked (append ns ms)
  pub defined : (bytes : List ℕ) (ns : Nodes) → LeadOn bytes (link_labels bytes ns) (footnote_labels bytes ns) false ns → first_lost bytes ns ≡ None
