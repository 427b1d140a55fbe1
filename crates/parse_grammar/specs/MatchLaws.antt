-- How what is known of the nodes of a text makes its list of events one that matches the grammar.
use Rattle.std.specs.Prelude.{◌≡◌, ℕ, true, false, List}
use Rattle.std.specs.Str.{is_utf8}
use Rattle.markdown_options.specs.declared.configuration.Constructs.{Constructs}
use Rattle.engine_events.specs.declared.event.Event.{Event}
use Rattle.definition_inline.specs.CharacterReference.{Names}
use Rattle.event_check.specs.Matches.{MatchesGrammar}
use Rattle.event_grammar.specs.declared.slot.Between.TheVariants.{Lines}
use Rattle.event_grammar.specs.Grammar.{document_row}
use Rattle.event_grammar.specs.InGrammar.{PlacesFit}
use Rattle.event_grammar.specs.Points.{spot}
use Rattle.event_grammar.specs.References.{footnote_labels, link_labels}
use Rattle.event_grammar.specs.Trees.{AreNodes, Nodes, events_of}
use Rattle.event_tokens.specs.Bytes.{HaveTheirBytes}
use Rattle.parse_output.specs.Placed.{ArePlaced}
use Rattle.parse_slots.specs.Left.{ends, left_by}
use Rattle.parse_references.specs.Cells.{AgreeInCells}
use Rattle.parse_references.specs.Leads.{LeadOn}
use Rattle.parse_references.specs.Sound.{AreSound}

-- a list of events of a text is that of nodes that meet all that the grammar asks
pub record MeetsGrammar (names : Names) (text : List ℕ) (events : List Event) : Type 0 where
  pub nodes : Nodes
  pub nested : events ≡ events_of nodes
  pub paired : AreNodes nodes
  pub filled : ends (left_by Lines document_row nodes) ≡ true
  pub utf8 : is_utf8 text ≡ true
  pub placed : ArePlaced text events
  pub tokens : HaveTheirBytes text events
  pub on : Constructs
  pub sound : AreSound on names text nodes
  pub leads : LeadOn text (link_labels text nodes) (footnote_labels text nodes) false nodes
  pub cells : AgreeInCells 0 nodes

-- the places of a list that is told byte by byte are those of the grammar, if tokens have their bytes: none is inside a character
abbrev pub TokensFit : Type 0
TokensFit = (text : List ℕ) (events : List Event) → is_utf8 text ≡ true → ArePlaced text events → HaveTheirBytes text events → PlacesFit text (spot 0 0) events

-- such a list matches the grammar
abbrev pub MetGrammarMatches : Type 0
MetGrammarMatches = (names : Names) (text : List ℕ) (events : List Event) → MeetsGrammar names text events → MatchesGrammar names text events
