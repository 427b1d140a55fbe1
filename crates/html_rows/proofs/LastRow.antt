-- Whether the last row is the ending of a blank line.
use Rattle.std.proofs.Common.{◌≡◌, ℕ, ◌+◌, List, Bool, false, sym, ap, ◌∙◌, arith, get_or, length, take}
use Rattle.std.proofs.lemmas.List.{take_all}
use Rattle.html_rows.proofs.Prelude.{BlockLine, BlockRow, ends_blank_rows, fold_push, is_blank_row, Row, row_value, rows_value, RowsValue}
use Rattle.block_rows.proofs.RowSteps.{shown_more}

-- the last row alone says it
pub last_row : (rows : List Row) (ls : List BlockLine) (i : ℕ) (d : Row) → i + 1 ≡ length rows
    → ends_blank_rows (rows_value rows ls).rows ≡ is_blank_row (row_value (get_or rows i d) (rows_value (take i rows) ls).left)
last_row rows ls i d last =
    let so_far = rows_value (take i rows) ls in
    let row = row_value (get_or rows i d) so_far.left in
    ap (λ (rs : List Row). ends_blank_rows (rows_value rs ls).rows) (sym (take_all (i + 1) rows (omega (arith, last))))
    ∙ ap (λ (s : RowsValue). ends_blank_rows s.rows) (shown_more rows ls i d (omega (arith, last)))
    ∙ fold_push (λ (before : Bool) (r : BlockRow). is_blank_row r) false so_far.rows row
