-- What rows hide, one row after the other.
use Rattle.std.proofs.Common.{◌≡◌, List, [], ◌∷◌, ◌++◌, Option, None, Some, refl, sym, ap, ◌∙◌}
use Rattle.std.specs.List.{flat_map}
use Rattle.std.proofs.lemmas.List.{append-nil}
use Rattle.std.proofs.lemmas.List.Concat.{flat_map-append}
use Rattle.definition_text.specs.BlockLines.{BlockLine}
use Rattle.definition_inline.specs.Definition.{Definition}
use Rattle.block_rows.specs.Rows.{BlockRow, Single, definition_value}
use Rattle.format_pages.specs.Hidden.{HasHidden, definitions_in, footnotes_in, infos_in, row_footnotes, row_infos, row_texts, texts_on}
use Rattle.format_pages.specs.declared.hidden.Hidden.{Hidden}

-- the texts of a definition's row
pub definition_row : (ls : List BlockLine) (o : Option Definition) → row_texts (Single (definition_value ls o)) ≡ texts_on o
definition_row ls None = refl
definition_row ls (Some d) = refl

list_more : {A : Type 0} (f : BlockRow → List A) (rows : List BlockRow) (row : BlockRow) → flat_map f rows ++ f row ≡ flat_map f (rows ++ row ∷ [])
list_more f rows row = ap (λ xs. flat_map f rows ++ xs) (sym (append-nil (f row))) ∙ sym (flat_map-append f rows (row ∷ []))

pub one_row_more : (old new : Hidden) (rows : List BlockRow) (row : BlockRow) → HasHidden old rows
    → infos_in new ≡ infos_in old ++ row_infos row
    → footnotes_in new ≡ footnotes_in old ++ row_footnotes row
    → definitions_in new ≡ definitions_in old ++ row_texts row
    → HasHidden new (rows ++ row ∷ [])
one_row_more old new rows row has infos footnotes definitions = record {
  infos = infos ∙ ap (λ xs. xs ++ row_infos row) has.infos ∙ list_more row_infos rows row;
  footnotes = footnotes ∙ ap (λ xs. xs ++ row_footnotes row) has.footnotes ∙ list_more row_footnotes rows row;
  definitions = definitions ∙ ap (λ xs. xs ++ row_texts row) has.definitions ∙ list_more row_texts rows row;
}
