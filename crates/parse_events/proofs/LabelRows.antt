-- The labels of rows, and those of the blocks that they are the rows of.
use Rattle.std.proofs.Common.{◌≡◌, List, [], ◌∷◌, ◌++◌, Option, None, Some, refl, sym, ap, ap₂, ◌∙◌, map}
use Rattle.std.specs.List.{flat_map}
use Rattle.parse_events.proofs.Prelude.{append-nil, BlockLine, BlockRow, Container, defined_in, definition_value, Exit, flat_map-append, Footnote}
use Rattle.parse_events.proofs.Prelude.{HasLabels, Item, map-append, normal_label, normal_labels, own_label, Quote, row_definitions, rows_of, Single}
use Rattle.parse_events.proofs.Prelude.{start_row}
use Rattle.definition_inline.specs.Definition.{Definition}
use Rattle.definition_inline.specs.Targets.{labels_of}
use Rattle.definition_block.specs.Blocks.{Block, Leaf, Holds, Items, Ending, Blank, Blocks, Nil, Cons}
use Rattle.definition_block.specs.Definitions.{container_footnotes}
use Rattle.block_rows.specs.Rows.{block_rows}
use Rattle.block_rows.proofs.DefinitionRows.{definitions_of}
use Rattle.parse_events.specs.declared.labels.Labels.{Labels}
use Rattle.parse_events.specs.Labels.{begun, begun_in, block_begun, definition_labels, footnote_labels, row_begun}

-- the label of a definition's row
pub one_label : (ls : List BlockLine) (o : Option Definition) → normal_labels (row_definitions (Single (definition_value ls o))) ≡ own_label o ∷ []
one_label ls None = refl
one_label ls (Some d) = refl

-- ---- one row more

list_more : {A : Type 0} (f : BlockRow → List A) (rows : List BlockRow) (row : BlockRow) → flat_map f rows ++ f row ≡ flat_map f (rows ++ row ∷ [])
list_more f rows row = ap (λ xs. flat_map f rows ++ xs) (sym (append-nil (f row))) ∙ sym (flat_map-append f rows (row ∷ []))

normal_more : (ds es : List Definition) → normal_labels ds ++ normal_labels es ≡ normal_labels (ds ++ es)
normal_more ds es =
    sym (map-append normal_label (labels_of ds) (labels_of es)) ∙ ap (map normal_label) (sym (map-append (λ (d : Definition). d.label) ds es))

pub one_row_more : {A : Type 0} (old new : Labels A) (rows : List BlockRow) (row : BlockRow) → HasLabels old rows
    → defined_in new ≡ defined_in old ++ normal_labels (row_definitions row)
    → begun_in new ≡ begun_in old ++ map normal_label (row_begun row)
    → HasLabels new (rows ++ row ∷ [])
one_row_more old new rows row has defined starts = record {
  defined =
      defined ∙ ap (λ xs. xs ++ normal_labels (row_definitions row)) has.defined
      ∙ normal_more (flat_map row_definitions rows) (row_definitions row) ∙ ap normal_labels (list_more row_definitions rows row);
  begun =
      starts ∙ ap (λ xs. xs ++ map normal_label (row_begun row)) has.begun
      ∙ sym (map-append normal_label (flat_map row_begun rows) (row_begun row)) ∙ ap (map normal_label) (list_more row_begun rows row);
}

-- ---- blocks

begun_at_start : (c : Container) → row_begun (start_row c) ≡ container_footnotes c
begun_at_start Quote = refl
begun_at_start (Item item) = refl
begun_at_start (Footnote label) = refl

mutual
  begun_rows_in : (b : Block) → flat_map row_begun (block_rows b) ≡ block_begun b
  begun_rows_in (Leaf leaf) = refl
  begun_rows_in (Holds c kids) =
      ap₂ (λ xs ys. xs ++ ys) (begun_at_start c)
      (flat_map-append row_begun (rows_of kids) (Exit ∷ []) ∙ append-nil (flat_map row_begun (rows_of kids)) ∙ begun_rows kids)
  begun_rows_in (Items items) = begun_rows items
  begun_rows_in (Ending ending) = refl
  begun_rows_in (Blank ending) = refl

  begun_rows : (bs : Blocks) → flat_map row_begun (rows_of bs) ≡ begun bs
  begun_rows Nil = refl
  begun_rows (Cons b bs) =
      flat_map-append row_begun (block_rows b) (rows_of bs) ∙ ap₂ (λ xs ys. xs ++ ys) (begun_rows_in b) (begun_rows bs)

-- the labels of the rows of blocks
pub defined_by : {A : Type 0} (labels : Labels A) (rows : List BlockRow) (bs : Blocks) → HasLabels labels rows → rows ≡ rows_of bs
    → defined_in labels ≡ definition_labels bs
defined_by labels rows bs has are = has.defined ∙ ap (λ rs. normal_labels (flat_map row_definitions rs)) are ∙ ap normal_labels (definitions_of bs)

pub begun_by : {A : Type 0} (labels : Labels A) (rows : List BlockRow) (bs : Blocks) → HasLabels labels rows → rows ≡ rows_of bs
    → begun_in labels ≡ footnote_labels bs
begun_by labels rows bs has are = has.begun ∙ ap (λ rs. map normal_label (flat_map row_begun rs)) are ∙ ap (map normal_label) (begun_rows bs)
