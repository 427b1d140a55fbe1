-- What nodes of a document meet of the grammar if they spell the page of its text (CommonMark 6.3 and GFM 4.10).
use Rattle.std.specs.Prelude.{◌≡◌, ℕ, ◌<◌, true, false, List, get_or}
use Rattle.markdown_options.specs.declared.configuration.ParseOptions.{ParseOptions}
use Rattle.definition_page.specs.TextTables.{TextTables}
use Rattle.event_grammar.specs.declared.slot.Between.TheVariants.{Lines}
use Rattle.event_grammar.specs.Grammar.{document_row}
use Rattle.event_grammar.specs.References.{footnote_labels, link_labels}
use Rattle.event_grammar.specs.Trees.{Nodes}
use Rattle.event_meaning.specs.Spelled.{page_of}
use Rattle.parse_slots.specs.Left.{ends, left_by}
use Rattle.parse_alike.specs.Spelled.{IsPageOfText}
use Rattle.parse_references.specs.Cells.{AgreeInCells}
use Rattle.parse_references.specs.Leads.{LeadOn}
use Rattle.parse_references.specs.Sound.{AreSound}

-- Nodes that spell the page of a text, fill the row of a document and are sound: no link and no call among them is in another, and each reference has a
-- definition.
abbrev pub DocumentsLeadOn : Type 0
DocumentsLeadOn =
    (tables : TextTables) (options : ParseOptions) (text : List ℕ) (ns : Nodes) → IsPageOfText tables options text (page_of tables.names text ns)
    → ends (left_by Lines document_row ns) ≡ true → AreSound options.constructs tables.names text ns
    → LeadOn text (link_labels text ns) (footnote_labels text ns) false ns

-- Nodes that spell the page of a text of bytes, and fill the row of a document: each row of delimiters among them has as many cells as the head before it.
abbrev pub DocumentsAgreeInCells : Type 0
DocumentsAgreeInCells =
    (tables : TextTables) (options : ParseOptions) (text : List ℕ) (ns : Nodes) → ((k : ℕ) → get_or text k 0 < 256)
    → IsPageOfText tables options text (page_of tables.names text ns) → ends (left_by Lines document_row ns) ≡ true → AgreeInCells 0 ns
