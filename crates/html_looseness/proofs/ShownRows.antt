-- Rows that are shown.
use Rattle.std.proofs.Common.{◌≡◌, List, [], ◌∷◌, ◌++◌, ap, sym, ◌∙◌, drop}
use Rattle.std.specs.List.{fold}
use Rattle.std.proofs.lemmas.List.{append-nil, append_assoc}
use Rattle.block_rows.specs.declared.row.Row.{Row}
use Rattle.block_rows.specs.Rows.{RowsValue, value_with, show_row, row_value, row_size}

-- the rows that are shown already stay
pub shown_after : (s : RowsValue) (rows : List Row) → (fold show_row s rows).rows ≡ s.rows ++ (fold show_row (value_with [] s.left) rows).rows
shown_after s [] = sym (append-nil s.rows)
shown_after s (r ∷ rs) =
    let b = row_value r s.left in
    let left = drop (row_size r) s.left in
    shown_after (show_row s r) rs
    ∙ append_assoc s.rows (b ∷ []) (fold show_row (value_with [] left) rs).rows
    ∙ ap (λ x. s.rows ++ x) (sym (shown_after (show_row (value_with [] s.left) r) rs))
