-- What is written goes on to spell what is open, and in the end the page.
use Rattle.std.specs.Prelude.{◌≡◌, ℕ, true, List, []}
use Rattle.markdown_options.specs.declared.configuration.ParseOptions.{ParseOptions}
use Rattle.definition_block.specs.Definitions.{document_targets}
use Rattle.definition_block.specs.Lists.{group_items}
use Rattle.definition_block.specs.Tree.{Blocks}
use Rattle.definition_page.specs.Read.{Reading, reading}
use Rattle.definition_page.specs.TextTables.{TextTables}
use Rattle.engine_events.specs.declared.event.Event.{Event}
use Rattle.event_grammar.specs.declared.slot.Between.TheVariants.{Lines}
use Rattle.event_grammar.specs.Grammar.{document_row}
use Rattle.event_grammar.specs.Trees.{AreNodes, Nodes, events_of, growth, tree}
use Rattle.event_meaning.specs.Spelled.{page_of}
use Rattle.html_looseness.specs.declared.loose.Place.{Place}
use Rattle.parse_output.specs.Children.{HaveChildren}
use Rattle.parse_output.specs.Forest.{bytewise}
use Rattle.parse_slots.specs.Left.{ends, left_by}
use Rattle.parse_references.specs.Sound.{AreSound}
use Rattle.parse_open.specs.Open.{bare_blocks, opened}
use Rattle.parse_open.specs.Fronts.{IsFront, IsSpelledPage}
use Rattle.parse_open.specs.Levels.{Spells}
use Rattle.parse_open.specs.Steps.{LevelsGoOn}

-- However a text is read, and whatever is in front of its blocks, what is written spells what is open after each row.
abbrev pub LevelsAlwaysGoOn : Type 0
LevelsAlwaysGoOn = (r : Reading) (text : List ℕ) (front : Nodes) → LevelsGoOn r text front

-- Where nothing is open after all rows of a document, the nodes spell a page that is alike to that of its blocks.
abbrev pub PagesAreSpelled : Type 0
PagesAreSpelled =
    (tables : TextTables) (options : ParseOptions) (text : List ℕ) (bs : Blocks) (front ns : Nodes) (line : ℕ) → IsFront options.constructs tables.names text front bs
    → Spells (reading tables options (document_targets bs)) text front (opened (group_items (bare_blocks bs)) [] []) (growth ns []) line
    → IsSpelledPage tables options text bs (page_of tables.names text ns)

-- Where nothing is open after all rows of a document, its nodes fill the row of the document, and so do those of a list of events that has these nodes with
-- their data cut into bytes.
abbrev pub DocumentsAreFilled : Type 0
DocumentsAreFilled =
    (r : Reading) (text : List ℕ) (front : Nodes) (bs : Blocks) (places : List Place) (kids : Nodes) (line : ℕ) (events : List Event) (ns : Nodes)
    → Spells r text front (opened bs [] places) (growth kids []) line → events ≡ events_of ns → AreNodes ns → HaveChildren events
    → bytewise (tree events) ≡ kids → ends (left_by Lines document_row ns) ≡ true

-- Where nothing is open after all rows of a document, and what is in front of its blocks is sound, all of its nodes are. So are those of a list of events that
-- has these nodes with their data cut into bytes.
abbrev pub DocumentsAreSound : Type 0
DocumentsAreSound =
    (r : Reading) (text : List ℕ) (front : Nodes) (bs : Blocks) (places : List Place) (kids : Nodes) (line : ℕ) (events : List Event) (ns : Nodes)
    → AreSound r.parse.constructs r.tables.names text front → Spells r text front (opened bs [] places) (growth kids []) line → events ≡ events_of ns → AreNodes ns
    → HaveChildren events → bytewise (tree events) ≡ kids → AreSound r.parse.constructs r.tables.names text ns
