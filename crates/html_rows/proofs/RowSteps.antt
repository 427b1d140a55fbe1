-- One more row.
use Rattle.std.proofs.Common.{◌≡◌, ℕ, ◌+◌, ◌<◌, List, [], ◌∷◌, ◌++◌, ap, sym, ◌∙◌, subst, take, drop, get_or, length}
use Rattle.html_rows.proofs.Prelude.{All, All-head, ArePrintable, BlockLine, BlockRow, Document, fold, fold-append, fold_push, IsPrintableRow, print_all}
use Rattle.html_rows.proofs.Prelude.{print_row, PrinterView, Row, row_size, row_value, rows_value, RowsValue, value_with}
use Rattle.std.proofs.lemmas.List.{append_assoc, drop_more, take-append-drop}
use Rattle.std.proofs.lemmas.List.Elements.{All-drop, All-take}
use Rattle.std.proofs.Math.Seq.{drop-append_seam, take-append_seam}
use Rattle.block_rows.specs.Rows.{show_row}
use Rattle.html_looseness.proofs.ShownRows.{shown_after}

-- a row is printed after those before it
pub printed_more : (d : Document) (default : List ℕ) (p : PrinterView) (rows : List BlockRow) (row : BlockRow)
    → print_all d default p (rows ++ row ∷ []) ≡ print_row d default (print_all d default p rows) row
printed_more d default p rows row = fold_push (print_row d default) p rows row

-- ---- a row that is shown

-- rows in two parts: the second takes its lines from those that the first leaves
pub shown_parts : (first second : List Row) (ls : List BlockLine)
    → (rows_value (first ++ second) ls).rows ≡ (rows_value first ls).rows ++ (rows_value second (rows_value first ls).left).rows
shown_parts first second ls =
    ap (λ (s : RowsValue). s.rows) (fold-append show_row (value_with [] ls) first second) ∙ shown_after (rows_value first ls) second

-- the same of the rows before a place and those from it on
pub shown_from : (rows : List Row) (ls : List BlockLine) (i : ℕ)
    → (rows_value rows ls).rows ≡ (rows_value (take i rows) ls).rows ++ (rows_value (drop i rows) (rows_value (take i rows) ls).left).rows
shown_from rows ls i = ap (λ rs. (rows_value rs ls).rows) (sym (take-append-drop i rows)) ∙ shown_parts (take i rows) (drop i rows) ls

all_left : {X : Type 0} (P : X → Type 0) (xs ys : List X) → All P (xs ++ ys) → All P xs
all_left P xs ys h = subst (All P) (take-append_seam xs ys) (All-take P (length xs) (xs ++ ys) h)

all_right : {X : Type 0} (P : X → Type 0) (xs ys : List X) → All P (xs ++ ys) → All P ys
all_right P xs ys h = subst (All P) (drop-append_seam xs ys) (All-drop P (length xs) (xs ++ ys) h)

-- where rows can be printed, so can those before a place and those from it on
pub printable_front : (rows : List Row) (ls : List BlockLine) (i : ℕ) → ArePrintable (rows_value rows ls).rows
    → ArePrintable (rows_value (take i rows) ls).rows
printable_front rows ls i h = all_left IsPrintableRow (rows_value (take i rows) ls).rows _ (subst ArePrintable (shown_from rows ls i) h)

pub printable_rest : (rows : List Row) (ls : List BlockLine) (i : ℕ) → ArePrintable (rows_value rows ls).rows
    → ArePrintable (rows_value (drop i rows) (rows_value (take i rows) ls).left).rows
printable_rest rows ls i h = all_right IsPrintableRow (rows_value (take i rows) ls).rows _ (subst ArePrintable (shown_from rows ls i) h)

-- each row that is shown can be printed
pub printable_at : (rows : List Row) (ls : List BlockLine) (i : ℕ) (d : Row) → i < length rows → ArePrintable (rows_value rows ls).rows
    → IsPrintableRow (row_value (get_or rows i d) (rows_value (take i rows) ls).left)
printable_at rows ls i d lt h =
    let so_far = rows_value (take i rows) ls in
    let row = get_or rows i d in
    let b = row_value row so_far.left in
    let others = (fold show_row (value_with [] (drop (row_size row) so_far.left)) (drop (i + 1) rows)).rows in
    let split : (rows_value rows ls).rows ≡ so_far.rows ++ b ∷ others =
    ap (λ rs. (rows_value rs ls).rows) (sym (take-append-drop i rows))
    ∙ ap (λ (s : RowsValue). s.rows) (fold-append show_row (value_with [] ls) (take i rows) (drop i rows))
    ∙ ap (λ rs. (fold show_row so_far rs).rows) (drop_more rows i d lt)
    ∙ shown_after (show_row so_far row) (drop (i + 1) rows)
    ∙ append_assoc so_far.rows (b ∷ []) others in
    All-head IsPrintableRow b others (all_right IsPrintableRow so_far.rows (b ∷ others) (subst ArePrintable split h))
