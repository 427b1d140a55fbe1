-- What `parse` returns: the events of a text, and what is known of it beside them.
use Rattle.std.specs.Prelude.{◌≡◌, ℕ, true, List}
use Rattle.markdown_options.specs.declared.configuration.ParseOptions.{ParseOptions}
use Rattle.definition_page.specs.TextTables.{TextTables}
use Rattle.engine_events.specs.declared.event.Event.{Event}
use Rattle.event_check.specs.Matches.{MatchesGrammar}
use Rattle.event_grammar.specs.declared.slot.Between.TheVariants.{Lines}
use Rattle.event_grammar.specs.Grammar.{document_row}
use Rattle.event_grammar.specs.Trees.{AreNodes, Nodes, events_of}
use Rattle.event_tokens.specs.Bytes.{HaveTheirBytes}
use Rattle.event_tokens.specs.Shape.{HaveShape}
use Rattle.event_meaning.specs.Spelled.{spelled}
use Rattle.parse_alike.specs.Spelled.{IsPageOfText}
use Rattle.parse_grammar.specs.Constructs.{NothingIsOff}
use Rattle.parse_output.specs.Children.{HaveChildren}
use Rattle.parse_output.specs.Placed.{ArePlaced}
use Rattle.parse_slots.specs.Left.{ends, left_by}
use Rattle.parse_events.specs.declared.state.ParseState.{ParseState}
use Rattle.parse_events.specs.Labels.{definition_labels, footnote_labels, text_blocks}
use Rattle.parse_events.specs.Nested.{IsNested}
use Rattle.parse_events.specs.State.{IsReadBy, definitions_of, footnotes_of}

-- these events are placed in the text, well nested and in the grammar, have bytes that their names may have and the shape of events that are written, and
-- spell its page; none has the name of a construct that is off
pub record AreEventsOf (tables : TextTables) (options : ParseOptions) (text : List ℕ) (events : List Event) : Type 0 where
  pub placed : ArePlaced text events
  pub nested : IsNested events
  pub children : HaveChildren events
  pub tokens : HaveTheirBytes text events
  pub shape : HaveShape text events
  pub grammar : MatchesGrammar tables.names text events
  pub spelled : IsPageOfText tables options text (spelled tables.names events text)
  pub on : NothingIsOff options.constructs events

-- The nodes of these events fill the row of the document in the grammar.
abbrev pub FillDocument : List Event → Type 0
FillDocument events = (ns : Nodes) → events ≡ events_of ns → AreNodes ns → ends (left_by Lines document_row ns) ≡ true

-- a state has what the text was read by, and its labels
pub record IsStateOf {T A : Type 0} (state : ParseState T A) (by : ParseOptions) (over : T) (text : List ℕ) : Type 0 where
  pub read_by : IsReadBy state by over text
  pub definitions : definitions_of state ≡ definition_labels (text_blocks by.constructs text)
  pub footnotes : footnotes_of state ≡ footnote_labels (text_blocks by.constructs text)
