-- The labels that a document defines, in the form in which labels match (CommonMark 4.7).
use Rattle.std.specs.Prelude.{◌≡◌, ℕ, List, [], ◌∷◌, ◌++◌, Option, None, Some, map, string_bytes}
use Rattle.std.specs.List.{flat_map}
use Rattle.markdown_options.specs.declared.configuration.Constructs.{Constructs}
use Rattle.definition_text.specs.Columns.{Code}
use Rattle.definition_text.specs.Lines.{kind_before_text, without_mark}
use Rattle.definition_inline.specs.Definition.{Definition}
use Rattle.definition_inline.specs.LabelMatch.{normal_label}
use Rattle.definition_inline.specs.Targets.{labels_of}
use Rattle.definition_block.specs.Blocks.{Block, Holds, Items, Blocks, Nil, Cons}
use Rattle.definition_block.specs.Definitions.{container_footnotes, document_definitions}
use Rattle.definition_block.specs.Tree.{blocks}
use Rattle.block_rows.specs.Rows.{BlockRow, EnterFootnote, row_definitions}
use Rattle.parse_events.specs.declared.labels.Labels.{Labels}

-- the blocks of a text, which may begin with a byte order mark
abbrev pub text_blocks : Constructs → List ℕ → Blocks
text_blocks on text = blocks on (kind_before_text text) (without_mark text)

-- the labels of definitions, as they match
abbrev pub normal_labels : List Definition → List (List ℕ)
normal_labels ds = map normal_label (labels_of ds)

-- the labels of the footnote definitions in blocks, in the order in which these begin, repeats kept
abbrev mutual
  pub block_begun : Block → List (List Code)
  block_begun (Holds c kids) = container_footnotes c ++ begun kids
  block_begun (Items items) = begun items
  block_begun b = []

  pub begun : Blocks → List (List Code)
  begun Nil = []
  begun (Cons b bs) = block_begun b ++ begun bs

-- the labels of a document's link reference definitions, in the order of the text, repeats kept
abbrev pub definition_labels : Blocks → List (List ℕ)
definition_labels bs = normal_labels (document_definitions bs)

-- those of its footnote definitions, in the order in which these begin, repeats kept
abbrev pub footnote_labels : Blocks → List (List ℕ)
footnote_labels bs = map normal_label (begun bs)

-- ---- of rows

-- the label of the footnote definition that a row begins, if it does
abbrev pub row_begun : BlockRow → List (List Code)
row_begun (EnterFootnote label) = label ∷ []
row_begun row = []

-- the label of a definition, if there is one
abbrev pub own_label : Option Definition → List ℕ
own_label None = []
own_label (Some d) = normal_label d.label

abbrev pub defined_in : {A : Type 0} → Labels A → List (List ℕ)
defined_in l = map string_bytes l.definitions.items

abbrev pub begun_in : {A : Type 0} → Labels A → List (List ℕ)
begun_in l = map string_bytes l.footnotes.items

-- the labels of rows
pub record HasLabels {A : Type 0} (labels : Labels A) (rows : List BlockRow) : Type 0 where
  pub defined : defined_in labels ≡ normal_labels (flat_map row_definitions rows)
  pub begun : begun_in labels ≡ map normal_label (flat_map row_begun rows)
