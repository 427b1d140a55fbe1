-- The pass from the last row to the first needs no lines.
use Rattle.std.proofs.Common.{◌≡◌, List, [], ◌∷◌, Option, None, Some, reverse, refl, sym, ap, ◌∙◌, take, drop, true, false}
use Rattle.std.specs.List.{fold, list_any}
use Rattle.std.proofs.lemmas.Bool.{or_parts}
use Rattle.std.proofs.lemmas.Grind.{reverse_onto}
use Rattle.std.proofs.lemmas.List.Sums.{fold_push}
use Rattle.block_rows.specs.declared.row.Row.{Row}
use Rattle.block_rows.specs.declared.row.Row.TheVariants as row
use Rattle.definition_text.specs.BlockLines.{BlockLine, own_lines}
use Rattle.definition_block.specs.Tree.{is_ending}
use Rattle.definition_inline.specs.Definition.{Definition}
use Rattle.block_rows.specs.Rows.{definition_on, definition_value, row_value, rows_value, value_with, row_size}
use Rattle.html_looseness.specs.Loose.{PassView, pass_at, pass_start, before_if, pass_row, pass_rows, places_of, starts_item}
use Rattle.html_looseness.proofs.ShownRows.{shown_after}

-- a row without its lines
abbrev pub pass_bare : PassView → Row → PassView
pass_bare p r = pass_row p (row_value r [])

-- a definition is no ending, whatever was read off its lines
no_ending : (ls : List BlockLine) (o : Option Definition) → is_ending (definition_value ls o) ≡ false
no_ending ls None = refl
no_ending ls (Some d) = refl

same_without_lines : (p : PassView) (r : Row) (ls : List BlockLine) → pass_row p (row_value r ls) ≡ pass_bare p r
same_without_lines p (row.Definition count) ls =
    ap (λ ending. pass_at (before_if ending p.ahead) p.outer p.places) (no_ending (own_lines (take count ls)) (definition_on (take count ls))
    ∙ sym (no_ending (own_lines (take count [])) (definition_on (take count []))))
same_without_lines p r ls = refl

pub passed_backward : (p : PassView) (rows : List Row) (ls : List BlockLine) → fold pass_bare p (reverse rows) ≡ pass_rows p (rows_value rows ls).rows
passed_backward p [] ls = refl
passed_backward p (r ∷ rows) ls =
    let left = drop (row_size r) ls in
    ap (fold pass_bare p) (reverse_onto rows r [])
    ∙ fold_push pass_bare p (reverse rows) r
    ∙ ap (λ q. pass_bare q r) (passed_backward p rows left)
    ∙ sym (same_without_lines (pass_rows p (rows_value rows left).rows) r ls)
    ∙ ap (pass_rows p) (sym (shown_after (value_with (row_value r ls ∷ []) left) rows))

-- ---- no place where there is no item

same_places : (p : PassView) (r : Row) (ls : List BlockLine) → starts_item r ≡ false → (pass_row p (row_value r ls)).places ≡ p.places
same_places p (row.EnterItem marker number) ls h = let wrong : true ≡ false = h in cc
same_places p r ls h = refl

no_places : (p : PassView) (rows : List Row) (ls : List BlockLine) → list_any starts_item rows ≡ false
    → (pass_rows p (rows_value rows ls).rows).places ≡ p.places
no_places p [] ls h = refl
no_places p (r ∷ rows) ls h =
    let left = drop (row_size r) ls in
    let none = or_parts (starts_item r) (list_any starts_item rows) h in
    ap (λ rs. (pass_rows p rs).places) (shown_after (value_with (row_value r ls ∷ []) left) rows)
    ∙ same_places (pass_rows p (rows_value rows left).rows) r ls none.0
    ∙ no_places p rows left none.1

pub no_items : (rows : List Row) (ls : List BlockLine) → list_any starts_item rows ≡ false → places_of (rows_value rows ls).rows ≡ []
no_items rows ls h = no_places pass_start rows ls h
