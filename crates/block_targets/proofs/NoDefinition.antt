-- Rows without a definition have none.
use Rattle.std.proofs.Common.{◌≡◌, false, List, [], ◌∷◌, ◌++◌, refl, ap, ◌∙◌}
use Rattle.block_targets.proofs.Prelude.{append-nil, BlockLine, flat_map, flat_map-append, fold, list_any, or_parts, Row, row_definitions, row_size, row_value}
use Rattle.block_targets.proofs.Prelude.{rows_value, RowsValue, show_row, true≢false, value_with}
use Rattle.block_rows.specs.declared.row.Row.TheVariants as row
use Rattle.block_targets.specs.Read.{is_definition, takes_lines}

none_in : (r : Row) (ls : List BlockLine) → is_definition r ≡ false → row_definitions (row_value r ls) ++ [] ≡ []
none_in (row.Definition count) ls h = absurd (true≢false h)
none_in r ls h = refl

none_more : (s : RowsValue) (rows : List Row) → list_any is_definition rows ≡ false
    → flat_map row_definitions (fold show_row s rows).rows ≡ flat_map row_definitions s.rows
none_more s [] h = refl
none_more s (r ∷ rows) h =
    let none = or_parts (is_definition r) (list_any is_definition rows) h in
    none_more (show_row s r) rows none.1
    ∙ flat_map-append row_definitions s.rows (row_value r s.left ∷ [])
    ∙ ap (λ ds. flat_map row_definitions s.rows ++ ds) (none_in r s.left none.0)
    ∙ append-nil (flat_map row_definitions s.rows)

pub no_definitions : (rows : List Row) (ls : List BlockLine) → list_any is_definition rows ≡ false
    → flat_map row_definitions (rows_value rows ls).rows ≡ []
no_definitions rows ls h = none_more (value_with [] ls) rows h

-- ---- rows that take no lines have none

pub no_lines : (r : Row) (ls : List BlockLine) → takes_lines r ≡ false → (0 ≡ row_size r) × (row_definitions (row_value r ls) ≡ [])
no_lines row.Break ls h = (refl, refl)
no_lines row.EnterQuote ls h = (refl, refl)
no_lines (row.EnterItem marker number) ls h = (refl, refl)
no_lines row.Exit ls h = (refl, refl)
no_lines (row.Ending ending) ls h = (refl, refl)
no_lines (row.Blank ending) ls h = (refl, refl)
no_lines r ls h = absurd (true≢false h)
