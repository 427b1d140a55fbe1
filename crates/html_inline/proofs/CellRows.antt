-- Rows of inline structure in a cell.
use Rattle.std.proofs.Common.{◌≡◌, Bool, true, false, List, [], ◌∷◌, ◌++◌, refl, ap, ◌∙◌}
use Rattle.html_inline.proofs.Prelude.{Call, Cons, EnterLinked, EnterSpan, fold, in_cell, Inline, inline_rows, InlineLeaf, Inlines, Leaf, leaf_in, Leave}
use Rattle.html_inline.proofs.Prelude.{Linked, LinkTexts, map, Meaning, Nil, Part, part_in_cell, part_rows, parts_in_cell, PrintState, row_printed_in, Span}
use Rattle.html_inline.proofs.Prelude.{Target, with_row}
use Rattle.std.proofs.lemmas.List.{map-append}
use Rattle.definition_inline.specs.Inline as inline
use Rattle.definition_page.specs.GfmTable.{leaf_in_cell}
use Rattle.inline_rows.specs.InlineRows.{InlineRow, CallRow}
use Rattle.html_inline.specs.GfmTable.{row_in_cell}

leaf_unshown : (part : InlineLeaf) → leaf_in false part ≡ part
leaf_unshown (inline.Data b) = refl
leaf_unshown (inline.Escape b) = refl
leaf_unshown (inline.Character text) = refl
leaf_unshown (inline.Code text) = refl
leaf_unshown (inline.Math text) = refl
leaf_unshown (inline.Autolink is_email text) = refl
leaf_unshown (inline.Literal kind text) = refl
leaf_unshown (inline.Html html) = refl
leaf_unshown inline.EscapedBreak = refl
leaf_unshown inline.TrailingBreak = refl
leaf_unshown (inline.LineEnd code) = refl
leaf_unshown (inline.TaskCheck done) = refl

leaf_shown : (part : InlineLeaf) → leaf_in true part ≡ leaf_in_cell part
leaf_shown (inline.Data b) = refl
leaf_shown (inline.Escape b) = refl
leaf_shown (inline.Character text) = refl
leaf_shown (inline.Code text) = refl
leaf_shown (inline.Math text) = refl
leaf_shown (inline.Autolink is_email text) = refl
leaf_shown (inline.Literal kind text) = refl
leaf_shown (inline.Html html) = refl
leaf_shown inline.EscapedBreak = refl
leaf_shown inline.TrailingBreak = refl
leaf_shown (inline.LineEnd code) = refl
leaf_shown (inline.TaskCheck done) = refl

row_unshown : (r : InlineRow) → row_in_cell false r ≡ r
row_unshown (Part part) = ap Part (leaf_unshown part)
row_unshown (EnterSpan kind) = refl
row_unshown (EnterLinked kind target) = refl
row_unshown Leave = refl
row_unshown (CallRow label) = refl

rows_unshown : (rows : List InlineRow) → map (row_in_cell false) rows ≡ rows
rows_unshown [] = refl
rows_unshown (r ∷ rs) = ap (λ x. x ∷ map (row_in_cell false) rs) (row_unshown r) ∙ ap (λ l. r ∷ l) (rows_unshown rs)

module _ (leads : Target → LinkTexts) where
  -- where a part starts, its kids stand, and it ends
  around : (first : InlineRow) (kids : Inlines) → map (row_in_cell true) (inline_rows leads kids) ≡ inline_rows leads (in_cell kids)
      → first ∷ map (row_in_cell true) (inline_rows leads kids ++ Leave ∷ []) ≡ first ∷ (inline_rows leads (in_cell kids) ++ Leave ∷ [])
  around first kids h = ap (λ l. first ∷ l) (map-append (row_in_cell true) (inline_rows leads kids) (Leave ∷ []) ∙ ap (λ l. l ++ Leave ∷ []) h)

  mutual
    part_cell_rows : (i : Inline) → map (row_in_cell true) (part_rows leads i) ≡ part_rows leads (part_in_cell i)
    part_cell_rows (Leaf part) = ap (λ p. Part p ∷ []) (leaf_shown part)
    part_cell_rows (Span kind kids) = around (EnterSpan kind) kids (cell_rows kids)
    part_cell_rows (Linked kind target kids) = around (EnterLinked kind (leads target)) kids (cell_rows kids)
    part_cell_rows (Call label) = refl

    cell_rows : (is : Inlines) → map (row_in_cell true) (inline_rows leads is) ≡ inline_rows leads (in_cell is)
    cell_rows Nil = refl
    cell_rows (Cons i is) =
        map-append (row_in_cell true) (part_rows leads i) (inline_rows leads is)
        ∙ ap (λ l. l ++ map (row_in_cell true) (inline_rows leads is)) (part_cell_rows i)
        ∙ ap (λ l. part_rows leads (part_in_cell i) ++ l) (cell_rows is)

  pub rows_shown : (cell : Bool) (is : Inlines) → map (row_in_cell cell) (inline_rows leads is) ≡ inline_rows leads (parts_in_cell cell is)
  rows_shown true is = cell_rows is
  rows_shown false is = rows_unshown (inline_rows leads is)

-- rows that are shown one by one
pub fold_shown : (cell : Bool) (meaning : Meaning) (p : PrintState) (rows : List InlineRow)
    → fold (row_printed_in cell meaning) p rows ≡ fold (with_row meaning) p (map (row_in_cell cell) rows)
fold_shown cell meaning p [] = refl
fold_shown cell meaning p (r ∷ rs) = fold_shown cell meaning (row_printed_in cell meaning p r) rs
