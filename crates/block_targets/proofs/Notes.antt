-- The labels of a document's footnote definitions are those of its rows.
use Rattle.std.proofs.Common.{◌≡◌, ℕ, zero, suc, Bool, true, false, not, eqb, List, [], ◌∷◌, ◌++◌, Option, None, Some, refl, sym, ap, ◌∙◌}
use Rattle.std.proofs.Common.{append_assoc, inl, inr}
use Rattle.std.specs.Prelude.{replicate}
use Rattle.block_targets.proofs.Prelude.{append-nil, Blocks, content_codes, fold, fold-append, footnotes, labels_so_far, LabelsSoFar, list_any, note_exit}
use Rattle.block_targets.proofs.Prelude.{note_row, or_parts, rows_of, true≢false}
use Rattle.std.proofs.lemmas.Bool.{cases_Bool, cond-false, eqb-true, false≢true}
use Rattle.definition_text.specs.Columns.{tab_column}
use Rattle.definition_text.specs.Content.{is_space}
use Rattle.definition_block.specs.Container.{Container, Footnote}
use Rattle.definition_block.specs.Blocks.{Block, Holds, Items, Nil, Cons}
use Rattle.definition_block.specs.Definitions.{container_footnotes, block_footnotes}
use Rattle.block_rows.specs.Rows.{Exit, start_row, block_rows}

nothing_more : (ended : List (List ℕ)) (containers : _) → labels_so_far ended containers ≡ labels_so_far (ended ++ []) containers
nothing_more ended containers = ap (λ x. labels_so_far x containers) (sym (append-nil ended))

-- the label of a footnote definition, as it is kept while this is open
abbrev container_label : Container → Option (List ℕ)
container_label (Footnote label) = Some label
container_label c = None

noted_at_start : (c : Container) (ended : List (List ℕ)) (containers : _) → note_row (labels_so_far ended containers) (start_row c)
    ≡ labels_so_far ended (container_label c ∷ containers)
noted_at_start (Footnote label) ended containers = refl
noted_at_start c ended containers = refl

noted_at_end : (c : Container) (ended : List (List ℕ)) (containers : _) → note_exit ended (container_label c ∷ containers)
    ≡ labels_so_far (ended ++ container_footnotes c) containers
noted_at_end (Footnote label) ended containers = refl
noted_at_end c ended containers = nothing_more ended containers

mutual
  notes_in : (b : Block) (ended : List (List ℕ)) (containers : _) → fold note_row (labels_so_far ended containers) (block_rows b)
      ≡ labels_so_far (ended ++ block_footnotes b) containers
  notes_in (Holds c kids) ended containers =
      fold-append note_row (note_row (labels_so_far ended containers) (start_row c)) (rows_of kids) (Exit ∷ [])
      ∙ ap (λ (n : LabelsSoFar). note_row (fold note_row n (rows_of kids)) Exit) (noted_at_start c ended containers)
      ∙ ap (λ (n : LabelsSoFar). note_row n Exit) (notes_of kids ended (container_label c ∷ containers))
      ∙ noted_at_end c (ended ++ footnotes kids) containers
      ∙ ap (λ x. labels_so_far x containers) (append_assoc ended (footnotes kids) (container_footnotes c))
  notes_in (Items items) ended containers = notes_of items ended containers
  notes_in b ended containers = nothing_more ended containers

  pub notes_of : (bs : Blocks) (ended : List (List ℕ)) (containers : _) → fold note_row (labels_so_far ended containers) (rows_of bs)
      ≡ labels_so_far (ended ++ footnotes bs) containers
  notes_of Nil ended containers = nothing_more ended containers
  notes_of (Cons b bs) ended containers =
      fold-append note_row (labels_so_far ended containers) (block_rows b) (rows_of bs)
      ∙ ap (λ (n : LabelsSoFar). fold note_row n (rows_of bs)) (notes_in b ended containers)
      ∙ notes_of bs (ended ++ block_footnotes b) containers
      ∙ ap (λ x. labels_so_far x containers) (append_assoc ended (block_footnotes b) (footnotes bs))

-- ---- a label without white space has the codes of its bytes

text_codes : (bs : List ℕ) → list_any is_space bs ≡ false → content_codes bs ≡ bs
text_codes [] h = refl
text_codes (b ∷ bs) h =
    let parts = or_parts (is_space b) (list_any is_space bs) h in
    elim (cases_Bool (eqb b 13)) [
      | inl e ↦ absurd (true≢false (sym (ap is_space (eqb-true b 13 e)) ∙ parts.0))
      | inr other ↦ cond-false (eqb b 13) _ _ other ∙ ap (λ x. b ∷ x) (text_codes bs parts.1)
    ]

not_true : (a : Bool) → not a ≡ true → a ≡ false
not_true true e = sym e
not_true false e = refl

pub bare_codes : (owed : ℕ) (text : List ℕ) → not (list_any is_space (replicate owed tab_column ++ text)) ≡ true
    → content_codes text ≡ replicate owed tab_column ++ text
bare_codes zero text h = text_codes text (not_true (list_any is_space text) h)
bare_codes (suc owed) text h = absurd (false≢true h)
