-- Where a walk stands before and after the blocks of a text, and which rows are left (CommonMark 5).
use Rattle.std.specs.Prelude.{◌≡◌, ◌<◌, ℕ, false, List, [], get_or, reverse}
use Rattle.markdown_options.specs.declared.beside.Kind.{Kind}
use Rattle.markdown_options.specs.declared.configuration.Constructs.{Constructs}
use Rattle.markdown_options.specs.declared.configuration.ParseOptions.{ParseOptions}
use Rattle.definition_text.specs.BlockLines.{BlockLine}
use Rattle.definition_text.specs.Lines.{lines}
use Rattle.definition_inline.specs.CharacterReference.{Names}
use Rattle.definition_block.specs.Container.{Container}
use Rattle.definition_block.specs.Definitions.{document_targets}
use Rattle.definition_block.specs.Lists.{group_items}
use Rattle.definition_block.specs.Tree.{Blocks, blocks}
use Rattle.definition_page.specs.Read.{Reading, reading}
use Rattle.definition_page.specs.TextTables.{TextTables}
use Rattle.block_rows.specs.declared.row.Row.{Row}
use Rattle.block_rows.specs.Rows.{rows_of, rows_value, value_with}
use Rattle.event_grammar.specs.Trees.{Nodes, growth}
use Rattle.parse_lines.specs.declared.walk.Walk.{Walk}
use Rattle.parse_lines.specs.Ends.{IsWrittenToLine}
use Rattle.parse_lines.specs.Standing.{StandsAt, standing}
use Rattle.parse_output.specs.Written.{IsInOrder, forest_in}
use Rattle.html_looseness.specs.Loose.{places_of}
use Rattle.html_looseness.specs.Printable.{ArePrintable}
use Rattle.parse_laid.specs.Laid.{unread_lines}
use Rattle.parse_laid.specs.ParserRows.{AreRowsLaid}
use Rattle.parse_laid.specs.Places.{Place, Between, unread}
use Rattle.parse_open.specs.Open.{LeadTo, Opened, bare_blocks, opened}
use Rattle.parse_open.specs.Filled.{FillBefore, FillOnPage}
use Rattle.parse_open.specs.Fronts.{IsFront, SpellsNothing}
use Rattle.parse_events.specs.declared.parser.Parser.{Parser}
use Rattle.parse_events.specs.Parsing.{IsParsing}
use Rattle.parse_events.specs.Stands.{Stands}

-- A walk stands before the first line of a text, of which this is the rest after its byte order mark: at most that mark is written, and no container is open.
pub record StandsAfterMark {A : Type 0} (on : Constructs) (text : List ℕ) (before : Kind) (rest : List ℕ) (w : Walk A) : Type 0 where
  pub front : Nodes
  pub nothing : (names : Names) → SpellsNothing on names text front
  pub fill : FillBefore front
  pub constructs : w.on.now ≡ on
  pub outside : (standing w).outermost ≡ []
  pub left : w.left.now ≡ rest
  pub order : IsInOrder text w.out
  pub stands : StandsAt text (Between (unread before (lines rest))) (standing w)
  pub written : IsWrittenToLine w
  pub forest : forest_in text w.out ≡ growth front []

-- A walk stands before the blocks of such a text: only what is in front of the blocks is written, and no container is open.
pub record StandsBefore {A : Type 0} (on : Constructs) (text : List ℕ) (before : Kind) (rest : List ℕ) (w : Walk A) : Type 0 where
  pub front : Nodes
  pub is_front : (names : Names) → IsFront on names text front (blocks on before rest)
  pub fill : FillOnPage front
  pub constructs : w.on.now ≡ on
  pub outside : (standing w).outermost ≡ []
  pub order : IsInOrder text w.out
  pub stands : StandsAt text (Between (unread_lines on before rest)) (standing w)
  pub written : IsWrittenToLine w
  pub forest : forest_in text w.out ≡ growth front []

-- All blocks of a text are written, where these are their rows and its contents are read so.
abbrev pub WritesBlocksBy : {A : Type 0} → Reading → List Row → List BlockLine → Walk A → Walk A → Type 0
WritesBlocksBy r rows ls old new =
    (text : List ℕ) (before : Kind) (rest : List ℕ) (start : StandsBefore r.parse.constructs text before rest old) → ((k : ℕ) → get_or rest k 0 < 256)
    → rows_value rows ls ≡ value_with (rows_of (blocks r.parse.constructs before rest)) []
    → Stands r text start.front (opened (group_items (bare_blocks (blocks r.parse.constructs before rest))) [] []) [] (Between []) new

-- All blocks of a text are written, which is read by its own labels.
abbrev pub WritesBlocks : {A : Type 0} → TextTables → ParseOptions → List Row → List BlockLine → Walk A → Walk A → Type 0
WritesBlocks tables options rows ls old new =
    (text : List ℕ) (before : Kind) (rest : List ℕ) (start : StandsBefore options.constructs text before rest old) → ((k : ℕ) → get_or rest k 0 < 256)
    → rows_value rows ls ≡ value_with (rows_of (blocks options.constructs before rest)) []
    → Stands (reading tables options (document_targets (blocks options.constructs before rest))) text start.front
    (opened (group_items (bare_blocks (blocks options.constructs before rest))) [] []) [] (Between []) new

-- From a place on these rows are laid in the lines of a text. They may come next, and lead to all of its blocks.
pub record AreAhead (on : Constructs) (all : Blocks) (o : Opened) (within : List Container) (p : Place) (rows : List Row) (ls : List BlockLine) : Type 0 where
  pub laid : AreRowsLaid on within p rows ls
  pub lead : LeadTo o (rows_value rows ls).rows all
  pub printable : ArePrintable (rows_value rows ls).rows

-- A parser stands among these rows of a text, which are left: from there they lead to all of its blocks.
pub record IsAmongRows {A : Type 0} (r : Reading) (text : List ℕ) (front : Nodes) (all : Blocks) (rows : List Row) (ls : List BlockLine) (parser : Parser A)
    : Type 0 where
  pub so_far : Opened
  pub within : List Container
  pub place : Place
  pub parsing : IsParsing r text front so_far within place parser
  pub ahead : AreAhead r.parse.constructs all so_far within place rows ls

-- These rows are written, where they are the rows of a text that are left.
abbrev pub WritesRows : {A : Type 0} → Reading → List Row → List BlockLine → Parser A → Parser A → Type 0
WritesRows r rows ls old new =
    (text : List ℕ) (front : Nodes) (all : Blocks) → IsAmongRows r text front all rows ls old
    → (left : List BlockLine) × IsAmongRows r text front all [] left new

-- Nothing is open in a parser of these rows, which begins at a walk.
pub record IsNew {A : Type 0} (rows : List Row) (w : Walk A) (parser : Parser A) : Type 0 where
  pub walk : parser.walk ≡ w
  pub lists : parser.open.items ≡ []
  pub items : parser.items.items ≡ []
  pub places : (ls : List BlockLine) → reverse parser.places.items ≡ places_of (rows_value rows ls).rows
  pub first : parser.first ≡ false
