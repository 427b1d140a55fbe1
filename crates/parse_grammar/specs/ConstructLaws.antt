-- What nodes of a document are if they spell the page of its text: none is of a construct that is off.
use Rattle.std.specs.Prelude.{◌≡◌, ℕ, true, List}
use Rattle.markdown_options.specs.declared.configuration.ParseOptions.{ParseOptions}
use Rattle.definition_page.specs.TextTables.{TextTables}
use Rattle.event_grammar.specs.declared.slot.Between.TheVariants.{Lines}
use Rattle.event_grammar.specs.Grammar.{document_row}
use Rattle.event_grammar.specs.Trees.{AreNodes, Nodes, events_of}
use Rattle.event_meaning.specs.Spelled.{page_of}
use Rattle.parse_slots.specs.Left.{ends, left_by}
use Rattle.parse_alike.specs.Spelled.{IsPageOfText}
use Rattle.parse_references.specs.Sound.{AreSound}
use Rattle.parse_grammar.specs.Constructs.{NothingIsOff}

-- Nodes that spell the page of a text, fill the row of a document and are sound: among their events is none of a construct that is off.
abbrev pub DocumentsHaveNothingOff : Type 0
DocumentsHaveNothingOff =
    (tables : TextTables) (options : ParseOptions) (text : List ℕ) (ns : Nodes) → IsPageOfText tables options text (page_of tables.names text ns)
    → ends (left_by Lines document_row ns) ≡ true → AreSound options.constructs tables.names text ns → AreNodes ns → NothingIsOff options.constructs (events_of ns)
