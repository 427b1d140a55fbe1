-- What the texts of a document are read by, and what is written of them (CommonMark 6).
use Rattle.std.specs.Prelude.{◌≡◌, ◌≤◌, ℕ, Bool, List, [], ◌++◌, drop}
use Rattle.std.specs.List.{prefix_len}
use Rattle.markdown_options.specs.declared.tables.Tables as tables
use Rattle.definition_text.specs.Columns.{is_white}
use Rattle.definition_text.specs.InlineCode.{InlineCode, codes_of}
use Rattle.definition_inline.specs.GfmTaskListItem.{check_at}
use Rattle.definition_inline.specs.Inline.{Inlines}
use Rattle.definition_inline.specs.Scan.{inlines_from, without_indent}
use Rattle.definition_inline.specs.Targets.{Targets}
use Rattle.definition_page.specs.Read.{Reading, reading, checked_text, context_of}
use Rattle.definition_page.specs.TextTables.{text_tables}
use Rattle.inline_parser.specs.Scanned.{HasTargets}
use Rattle.parse_lines.specs.declared.walk.Walk.{Walk}
use Rattle.event_grammar.specs.Trees.{Nodes}
use Rattle.parse_lines.specs.InContent.{IsWhole, StandsInContent, Stop, WritesInContent}
use Rattle.parse_lines.specs.Quiet.{AreQuiet}
use Rattle.parse_inline.specs.Texts.{FillsText, StandsInText, WritesText}
use Rattle.parse_raw.specs.declared.texts.Texts.{Texts}

-- the labels that texts are read by are those of these targets
abbrev pub KnowsTargets : {T A : Type 0} → Texts T A → Targets → Type 0
KnowsTargets texts ds = HasTargets texts.labels.now texts.footnotes.now ds

-- how the definition reads texts that know these targets
abbrev pub reading_by : {T A : Type 0} → tables.Ghosts T → Texts T A → Targets → Reading
reading_by g texts ds = reading (text_tables (g.reference_of texts.tables.now) (g.punctuation_of texts.tables.now)) texts.options.now ds

-- the inline structure of a content, which may begin with a check if it is the first of an item (GFM 5.3)
abbrev pub read_content : Reading → Bool → List InlineCode → Inlines
read_content r first content =
    let bare = without_indent content in checked_text r bare (check_at r.parse.constructs first (codes_of bare))

-- a content after the spaces and tabs at its start
abbrev pub without_white : List ℕ → List ℕ
without_white content = drop (prefix_len is_white content) content

-- From a walk in a content, of which nothing but white space at its start may be written, all of it is written, and spells this structure.
abbrev pub WritesContent : {A : Type 0} → Reading → List ℕ → Inlines → Walk A → Walk A → Type 0
WritesContent r content is old new =
    (text : List ℕ) (stop : Stop) → StandsInContent text (drop old.place content) stop old → old.place ≤ prefix_len is_white content
    → WritesText r.parse.constructs r.tables.names text (drop old.place content) is [] stop old new

-- the white space at the start of a content is written, and spells nothing
pub record WritesWhite {A : Type 0} (text content : List ℕ) (stop : Stop) (old new : Walk A) : Type 0 where
  pub front : List ℕ
  pub parts : drop old.place content ≡ front ++ without_white content
  pub nodes : Nodes
  pub quiet : AreQuiet nodes
  pub writes : WritesInContent text front nodes (without_white content) stop old new
  pub whole : IsWhole new
  pub ahead : without_white content ≡ drop new.place content
  pub fill : FillsText front nodes

-- from such a walk it is written
abbrev pub WritesIndent : {A : Type 0} → List ℕ → Walk A → Walk A → Type 0
WritesIndent content old new =
    (text : List ℕ) (stop : Stop) → StandsInContent text (drop old.place content) stop old → old.place ≤ prefix_len is_white content
    → WritesWhite text content stop old new

-- from a walk that stands in a text, all that is left of it is written
abbrev pub WritesStructure : {A : Type 0} → Reading → List ℕ → List ℕ → List InlineCode → Walk A → Walk A → Type 0
WritesStructure r content bytes at old new =
    (text : List ℕ) (stop : Stop) → StandsInText text content bytes at stop old
    → WritesText r.parse.constructs r.tables.names text bytes (inlines_from (context_of r) at) [] stop old new
