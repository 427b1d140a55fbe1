-- The calls among rows are those of the inline structure that the rows stand for.
use Rattle.std.proofs.Common.{◌≡◌, ℕ, ◌+◌, ◌<◌, Bool, true, false, List, [], ◌∷◌, ◌++◌, refl, sym, ap, ◌∙◌, take, get_or, length}
use Rattle.html_inline.proofs.Prelude.{append-nil, Call, Cons, Data, data_rows, EnterLinked, EnterSpan, flat_map-append, fold, in_bytes, in_cell, Inline}
use Rattle.html_inline.proofs.Prelude.{inline_counts, inline_rows, InlineLeaf, Inlines, laid_both, lay, LayoutState, Leaf, Leave, Linked, LinkTexts, map}
use Rattle.html_inline.proofs.Prelude.{Meaning, Nil, Part, part_counts, part_in_cell, part_rows, parts_in_cell, row_view, rows_counts, rows_view, Span}
use Rattle.html_inline.proofs.Prelude.{take_more, Target}
use Rattle.inline_rows.specs.InlineRows.{InlineRow}
use Rattle.inline_rows.specs.declared.row.InlineRow as row
use Rattle.html_inline.specs.Counts.{row_counts}

module _ (meaning : Meaning) where
  -- ---- the rows of inline structure

  module _ (leads : Target → LinkTexts) where
    around : (first : InlineRow) (kids : Inlines) → row_counts meaning first ≡ [] → rows_counts meaning (inline_rows leads kids) ≡ inline_counts meaning kids
        → rows_counts meaning (first ∷ (inline_rows leads kids ++ Leave ∷ [])) ≡ inline_counts meaning kids
    around first kids none h =
        ap (λ x. x ++ rows_counts meaning (inline_rows leads kids ++ Leave ∷ [])) none
        ∙ flat_map-append (row_counts meaning) (inline_rows leads kids) (Leave ∷ [])
        ∙ append-nil (rows_counts meaning (inline_rows leads kids))
        ∙ h

    mutual
      part_counted : (i : Inline) → rows_counts meaning (part_rows leads i) ≡ part_counts meaning i
      part_counted (Leaf part) = refl
      part_counted (Span kind kids) = around (EnterSpan kind) kids refl (rows_counted kids)
      part_counted (Linked kind target kids) = around (EnterLinked kind (leads target)) kids refl (rows_counted kids)
      part_counted (Call label) = append-nil (part_counts meaning (Call label))

      pub rows_counted : (is : Inlines) → rows_counts meaning (inline_rows leads is) ≡ inline_counts meaning is
      rows_counted Nil = refl
      rows_counted (Cons i is) =
          flat_map-append (row_counts meaning) (part_rows leads i) (inline_rows leads is)
          ∙ ap (λ x. x ++ rows_counts meaning (inline_rows leads is)) (part_counted i)
          ∙ ap (λ x. part_counts meaning i ++ x) (rows_counted is)

  -- ---- in a cell

  mutual
    part_in_cell_counts : (i : Inline) → part_counts meaning (part_in_cell i) ≡ part_counts meaning i
    part_in_cell_counts (Leaf part) = refl
    part_in_cell_counts (Span kind kids) = in_cell_counts kids
    part_in_cell_counts (Linked kind target kids) = in_cell_counts kids
    part_in_cell_counts (Call label) = refl

    in_cell_counts : (is : Inlines) → inline_counts meaning (in_cell is) ≡ inline_counts meaning is
    in_cell_counts Nil = refl
    in_cell_counts (Cons i is) =
        ap (λ x. x ++ inline_counts meaning (in_cell is)) (part_in_cell_counts i) ∙ ap (λ x. part_counts meaning i ++ x) (in_cell_counts is)

  pub shown_counts : (cell : Bool) (is : Inlines) → inline_counts meaning (parts_in_cell cell is) ≡ inline_counts meaning is
  shown_counts true is = in_cell_counts is
  shown_counts false is = refl

  -- ---- rows that are no call

  pub leaves_counts : (parts : List InlineLeaf) → rows_counts meaning (map Part parts) ≡ []
  leaves_counts [] = refl
  leaves_counts (part ∷ parts) = leaves_counts parts

  pub data_counts : (bytes : List ℕ) → rows_counts meaning (data_rows bytes) ≡ []
  data_counts bytes = leaves_counts (map Data bytes)

  -- ---- one more row

  pub counts_more : (at : ℕ → LinkTexts) (default : List ℕ) (rows : List row.InlineRow) (i : ℕ) (d : row.InlineRow) (start before after : LayoutState)
      → i < length rows
      → before ≡ fold (lay meaning.compile default) start (in_bytes (rows_counts meaning (rows_view at (take i rows))))
      → after ≡ fold (lay meaning.compile default) before (in_bytes (rows_counts meaning (row_view at (get_or rows i d))))
      → after ≡ fold (lay meaning.compile default) start (in_bytes (rows_counts meaning (rows_view at (take (i + 1) rows))))
  counts_more at default rows i d start before after lt e f =
      let one_more = lay meaning.compile default in
      let front = rows_view at (take i rows) in
      let next = row_view at (get_or rows i d) in
      let last : rows_view at (take (i + 1) rows) ≡ front ++ next =
      ap (rows_view at) (take_more rows i d lt)
      ∙ flat_map-append (row_view at) (take i rows) (get_or rows i d ∷ [])
      ∙ ap (λ s. front ++ s) (append-nil next) in
      f ∙ ap (λ (l : LayoutState). fold one_more l (in_bytes (rows_counts meaning next))) e
      ∙ sym (laid_both meaning.compile default start (rows_counts meaning front) (rows_counts meaning next))
      ∙ ap (λ ps. fold one_more start (in_bytes ps)) (sym (flat_map-append (row_counts meaning) front next))
      ∙ ap (λ rs. fold one_more start (in_bytes (rows_counts meaning rs))) (sym last)
