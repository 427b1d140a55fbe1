-- Rows that are shown one by one.
use Rattle.std.proofs.Common.{◌≡◌, ℕ, ◌+◌, ◌<◌, List, [], ap, ◌∙◌, take, drop, get_or, length}
use Rattle.std.specs.Prelude.{map}
use Rattle.std.proofs.lemmas.List.{drop-drop, drop-map}
use Rattle.std.proofs.lemmas.List.Sums.{fold_more, sum_by-drop_more}
use Rattle.block_rows.specs.declared.row.Row.{Row}
use Rattle.definition_text.specs.BlockLines.{BlockLine}
use Rattle.block_rows.specs.Rows.{rows_value, value_with, show_row, row_size, rows_size}

pub shown_more : (rows : List Row) (ls : List BlockLine) (i : ℕ) (d : Row) → i < length rows
    → rows_value (take (i + 1) rows) ls ≡ show_row (rows_value (take i rows) ls) (get_or rows i d)
shown_more rows ls i d lt = fold_more show_row (value_with [] ls) rows i d lt

-- the lines that a row takes, and those of the rows after it
pub taken_more : (rows : List Row) (i : ℕ) (d : Row) → i < length rows → rows_size (drop i rows) ≡ row_size (get_or rows i d) + rows_size (drop (i + 1) rows)
taken_more rows i d lt = sum_by-drop_more row_size rows i d lt

-- the lines that a row leaves
pub left_more : {X : Type 0} (f : X → BlockLine) (n taken : ℕ) (lines : List X) → drop n (map f (drop taken lines)) ≡ map f (drop (taken + n) lines)
left_more f n taken lines = drop-map f n (drop taken lines) ∙ ap (map f) (drop-drop n taken lines)
