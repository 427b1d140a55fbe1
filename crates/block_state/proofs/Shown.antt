-- What rows show after one more row or line.
use Rattle.std.proofs.Common.{◌≡◌, ℕ, ◌+◌, ◌≤◌, true, false, List, [], ◌∷◌, ◌++◌, refl, sym, ap, ◌∙◌, take, drop, length, append_assoc, arith}
use Rattle.std.specs.Prelude.{map}
use Rattle.std.specs.List.{fold}
use Rattle.std.proofs.lemmas.List.{append-nil, take-append-le, drop-append-le, length-drop, length-take, take-append-drop, drop_all, drop-drop}
use Rattle.std.proofs.lemmas.List.Sums.{fold_push, fold-append, sum_by-cons}
use Rattle.block_rows.specs.declared.row.Row.{Row}
use Rattle.block_rows.specs.declared.row.Row.TheVariants as row
use Rattle.definition_text.specs.BlockLines.{BlockLine, own_lines}
use Rattle.definition_block.specs.Tree.{Leaf, Paragraph, Heading, IndentedCode, FencedCode, Html, Table}
use Rattle.block_state.specs.Shows.{lone}
use Rattle.block_rows.specs.Rows.{definition_on, definition_value, BlockRow, Single, RowsValue, rows_value, value_with, show_row, row_value}
use Rattle.block_rows.specs.Rows.{row_size, rows_size}

-- ---- more lines beside the rows

abbrev pub with_left : RowsValue → List BlockLine → RowsValue
with_left s more = value_with s.rows (s.left ++ more)

-- a row of so many of these lines
taken_longer : (row_of : List BlockLine → BlockRow) (n m : ℕ) (out : List BlockRow) (own ls more : List BlockLine) → n ≤ length own → m ≤ length ls
    → value_with (out ++ row_of (take n (own ++ more)) ∷ []) (drop m (ls ++ more)) ≡ with_left (value_with (out ++ row_of (take n own) ∷ []) (drop m ls)) more
taken_longer row_of n m out own ls more some le =
    ap (λ front. value_with (out ++ row_of front ∷ []) (drop m (ls ++ more))) (take-append-le n own more some)
    ∙ ap (value_with (out ++ row_of (take n own) ∷ [])) (drop-append-le m ls more le)

row_longer : (r : Row) (out : List BlockRow) (ls more : List BlockLine) → row_size r ≤ length ls
    → show_row (value_with out (ls ++ more)) r ≡ with_left (show_row (value_with out ls) r) more
row_longer (row.Paragraph n) out ls more le = taken_longer (λ front. Single (Leaf (Paragraph (own_lines front)))) n n out ls ls more le le
row_longer row.WholeParagraph out [] more le = absurd (omega arith)
row_longer row.WholeParagraph out (l ∷ ls) more le = refl
row_longer (row.Heading rank) out ls more le = taken_longer (λ front. Single (Leaf (Heading rank (own_lines front)))) 1 1 out ls ls more le le
row_longer (row.SetextHeading rank n) out ls more le = taken_longer (λ front. Single (Leaf (Heading rank (own_lines front)))) n n out ls ls more le le
row_longer (row.IndentedCode n) out ls more le = taken_longer (λ front. Single (Leaf (IndentedCode (own_lines front)))) n n out ls ls more le le
row_longer (row.FencedCode n) out [] more le = absurd (omega arith)
row_longer (row.FencedCode n) out (l ∷ ls) more le =
    taken_longer (λ front. Single (Leaf (FencedCode l.codes true front))) n (1 + n) out ls (l ∷ ls) more (omega arith) le
row_longer (row.UnclosedCode n) out [] more le = absurd (omega arith)
row_longer (row.UnclosedCode n) out (l ∷ ls) more le =
    taken_longer (λ front. Single (Leaf (FencedCode l.codes false front))) n (1 + n) out ls (l ∷ ls) more (omega arith) le
row_longer row.WholeCode out [] more le = absurd (omega arith)
row_longer row.WholeCode out (l ∷ []) more le = absurd (omega arith)
row_longer row.WholeCode out (l ∷ code ∷ ls) more le = refl
row_longer (row.Html n) out ls more le = taken_longer (λ front. Single (Leaf (Html (own_lines front)))) n n out ls ls more le le
row_longer (row.Table n) out ls more le = taken_longer (λ front. Single (Leaf (Table (own_lines front)))) n n out ls ls more le le
row_longer (row.Definition n) out ls more le =
    taken_longer (λ front. Single (definition_value (own_lines front) (definition_on front))) n n out ls ls more le le
row_longer row.EnterFootnote out [] more le = absurd (omega arith)
row_longer row.EnterFootnote out (l ∷ ls) more le = refl
row_longer r out ls more le = refl

pub shown_longer : (rows : List Row) (out : List BlockRow) (ls more : List BlockLine) → rows_size rows ≤ length ls
    → fold show_row (value_with out (ls ++ more)) rows ≡ with_left (fold show_row (value_with out ls) rows) more
shown_longer [] out ls more le = refl
shown_longer (r ∷ rs) out ls more le =
    let e = sum_by-cons row_size r rs in
    let first = show_row (value_with out ls) r in
    ap (λ s. fold show_row s rs) (row_longer r out ls more (omega arith))
    ∙ shown_longer rs first.rows first.left more (omega (arith, e, length-drop (row_size r) ls))

-- the lines that the rows leave
pub left_is : (rows : List Row) (out : List BlockRow) (ls : List BlockLine) → (fold show_row (value_with out ls) rows).left ≡ drop (rows_size rows) ls
left_is [] out ls = refl
left_is (r ∷ rs) out ls =
    let first = show_row (value_with out ls) r in
    left_is rs first.rows first.left ∙ drop-drop (rows_size rs) (row_size r) ls ∙ ap (λ n. drop n ls) (sym (sum_by-cons row_size r rs))

pub left_shown : (rows : List Row) (pool : List BlockLine) (s : RowsValue) → rows_value rows pool ≡ s → s.left ≡ drop (rows_size rows) pool
left_shown rows pool s h = ap (λ (x : RowsValue). x.left) (sym h) ∙ left_is rows [] pool

pub left_count : (rows : List Row) (pool : List BlockLine) (s : RowsValue) → rows_value rows pool ≡ s → rows_size rows ≤ length pool
    → rows_size rows + length s.left ≡ length pool
left_count rows pool s h le = omega (arith, ap length (left_shown rows pool s h), length-drop (rows_size rows) pool)

pub pool_more : (rows : List Row) (pool : List BlockLine) (s : RowsValue) (l : BlockLine) → rows_size rows ≤ length pool → rows_value rows pool ≡ s
    → rows_value rows (pool ++ l ∷ []) ≡ with_left s (l ∷ [])
pool_more rows pool s l le h = shown_longer rows [] pool (l ∷ []) le ∙ ap (λ x. with_left x (l ∷ [])) h

-- ---- more rows

pub one_row_shown : (rows : List Row) (pool : List BlockLine) (r : Row) (s : RowsValue) → rows_value rows pool ≡ s
    → rows_value (rows ++ r ∷ []) pool ≡ show_row s r
one_row_shown rows pool r s h = fold_push show_row (value_with [] pool) rows r ∙ ap (λ x. show_row x r) h

-- a row that takes no lines shows the same whatever is left
none_of : (row_of : List BlockLine → BlockRow) (n : ℕ) (left : List BlockLine) → n ≡ 0 → row_of (take n left) ≡ row_of (take n [])
none_of row_of n left h = ap (λ (k : ℕ). row_of (take k left)) h ∙ sym (ap (λ (k : ℕ). row_of (take k [])) h)

none_taken : (r : Row) (left : List BlockLine) → row_size r ≡ 0 → row_value r left ≡ lone r
none_taken (row.Paragraph n) left h = none_of (λ front. Single (Leaf (Paragraph (own_lines front)))) n left h
none_taken row.WholeParagraph left h = absurd (omega (arith, h))
none_taken (row.Heading rank) left h = absurd (omega (arith, h))
none_taken (row.SetextHeading rank n) left h = none_of (λ front. Single (Leaf (Heading rank (own_lines front)))) n left h
none_taken (row.IndentedCode n) left h = none_of (λ front. Single (Leaf (IndentedCode (own_lines front)))) n left h
none_taken (row.FencedCode n) left h = absurd (omega (arith, h))
none_taken (row.UnclosedCode n) left h = absurd (omega (arith, h))
none_taken row.WholeCode left h = absurd (omega (arith, h))
none_taken (row.Html n) left h = none_of (λ front. Single (Leaf (Html (own_lines front)))) n left h
none_taken (row.Table n) left h = none_of (λ front. Single (Leaf (Table (own_lines front)))) n left h
none_taken (row.Definition n) left h = none_of (λ front. Single (definition_value (own_lines front) (definition_on front))) n left h
none_taken row.EnterFootnote left h = absurd (omega (arith, h))
none_taken r left h = refl

-- rows that take no lines
pub lone_shown : (rows : List Row) (s : RowsValue) → rows_size rows ≡ 0 → fold show_row s rows ≡ value_with (s.rows ++ map lone rows) s.left
lone_shown [] s h = ap (λ out. value_with out s.left) (sym (append-nil s.rows))
lone_shown (r ∷ rs) s h =
    let parts = sum_by-cons row_size r rs in
    let first : row_size r ≡ 0 = omega (arith, parts, h) in
    let others : rows_size rs ≡ 0 = omega (arith, parts, h) in
    lone_shown rs (show_row s r) others
    ∙ ap (λ x. value_with ((s.rows ++ x ∷ []) ++ map lone rs) (drop (row_size r) s.left)) (none_taken r s.left first)
    ∙ ap (λ k. value_with ((s.rows ++ lone r ∷ []) ++ map lone rs) (drop k s.left)) first
    ∙ ap (λ out. value_with out s.left) (append_assoc s.rows (lone r ∷ []) (map lone rs))

pub more_lone : (rows more : List Row) (pool : List BlockLine) (s : RowsValue) → rows_value rows pool ≡ s → rows_size more ≡ 0
    → rows_value (rows ++ more) pool ≡ value_with (s.rows ++ map lone more) s.left
more_lone rows more pool s h none = fold-append show_row (value_with [] pool) rows more ∙ ap (λ x. fold show_row x more) h ∙ lone_shown more s none

-- the lines that no row takes are cut off
pub cut_shown : (rows : List Row) (pool : List BlockLine) (s : RowsValue) → rows_size rows ≤ length pool → rows_value rows pool ≡ s
    → rows_value rows (take (rows_size rows) pool) ≡ value_with s.rows []
cut_shown rows pool s le h =
    let n = rows_size rows in
    let front = take n pool in
    let enough : n ≤ length front = omega (arith, length-take n pool) in
    let whole_pool : front ++ drop n pool ≡ pool = take-append-drop n pool in
    let longer = shown_longer rows [] front (drop n pool) enough in
    let same : (rows_value rows front).rows ≡ s.rows =
    ap (λ (x : RowsValue). x.rows) (sym longer ∙ ap (rows_value rows) whole_pool ∙ h) in
    let none : (rows_value rows front).left ≡ [] = left_is rows [] front ∙ drop_all n front (omega (arith, length-take n pool)) in
    ap (λ out. value_with out (rows_value rows front).left) same ∙ ap (value_with s.rows) none
