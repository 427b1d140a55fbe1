-- Rows in which no footnote definition starts note none.
use Rattle.std.proofs.Common.{◌≡◌, ℕ, false, List, [], ◌∷◌, Option, None, Some, refl, sym, ap, ◌∙◌, subst}
use Rattle.block_targets.proofs.Prelude.{BlockLine, Blocks, fold, fold-append, footnotes, labels_so_far, LabelsSoFar, list_any, note_exit, note_row, note_rows}
use Rattle.block_targets.proofs.Prelude.{nothing_noted, or_parts, Row, row_value, rows_of, rows_value, RowsValue, show_row, true≢false, value_with}
use Rattle.block_rows.specs.declared.row.Row.TheVariants as row
use Rattle.block_targets.specs.GfmFootnoteDefinition.{starts_footnote}
use Rattle.block_targets.proofs.Notes.{notes_of}

-- no container that is open has a label
abbrev AreUnnamed : List (Option (List ℕ)) → Type 0
AreUnnamed [] = Unit {0}
AreUnnamed (None ∷ containers) = AreUnnamed containers
AreUnnamed (Some label ∷ containers) = ⊥

-- no footnote definition ended, and none is open
abbrev IsUnnamed : LabelsSoFar → Type 0
IsUnnamed n = (n.ended ≡ []) × AreUnnamed n.containers

exit_unnamed : (ended : List (List ℕ)) (containers : List (Option (List ℕ))) → IsUnnamed (labels_so_far ended containers)
    → IsUnnamed (note_exit ended containers)
exit_unnamed ended [] h = h
exit_unnamed ended (None ∷ containers) h = (h.0, h.1)
exit_unnamed ended (Some label ∷ containers) h = absurd h.1

row_unnamed : (n : LabelsSoFar) (r : Row) (ls : List BlockLine) → starts_footnote r ≡ false → IsUnnamed n → IsUnnamed (note_row n (row_value r ls))
row_unnamed n row.EnterQuote ls off h = (h.0, h.1)
row_unnamed n (row.EnterItem marker number) ls off h = (h.0, h.1)
row_unnamed n row.EnterFootnote ls off h = absurd (true≢false off)
row_unnamed n row.Exit ls off h = exit_unnamed n.ended n.containers h
row_unnamed n r ls off h = h

rows_unnamed : (s : RowsValue) (rows : List Row) → list_any starts_footnote rows ≡ false → IsUnnamed (note_rows s.rows)
    → IsUnnamed (note_rows (fold show_row s rows).rows)
rows_unnamed s [] off h = h
rows_unnamed s (r ∷ rows) off h =
    let none = or_parts (starts_footnote r) (list_any starts_footnote rows) off in
    rows_unnamed (show_row s r) rows none.1
    (subst IsUnnamed (sym (fold-append note_row nothing_noted s.rows (row_value r s.left ∷ []))) (row_unnamed (note_rows s.rows) r s.left none.0 h))

pub no_footnotes : (rows : List Row) (ls : List BlockLine) (bs : Blocks) → list_any starts_footnote rows ≡ false
    → (rows_value rows ls).rows ≡ rows_of bs → footnotes bs ≡ []
no_footnotes rows ls bs off is =
    sym (ap (λ (n : LabelsSoFar). n.ended) (ap note_rows is ∙ notes_of bs [] []))
    ∙ (rows_unnamed (value_with [] ls) rows off (refl, tt)).0
