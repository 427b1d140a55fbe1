use Rattle.std.proofs.Common.{◌≡◌, ◌+◌, ◌-◌, Some, sym, ap, ◌∙◌, arith, length, take}
use Rattle.std.specs.List.{slice_get}
use Rattle.std.proofs.lemmas.Option.{slice_get_within, get_or_from_slice_get}
use Rattle.html_page.proofs.Prelude.{Row, row_value, rows_value}
use Rattle.html_rows.specs.Printing.{is_blank_row}
use Rattle.html_rows.proofs.LastRow.{last_row}
use Rattle.html_page.proofs.printer.ends_blank.Goals as goal

pub returns-in-Some : goal.returns-in-Some
returns-in-Some c = λ ls.
    let rows = c.args.rows.now in
    let i = length rows - 1 in
    let row = c.in-Some.row.now in
    let read : slice_get rows i ≡ Some row = sym c.in-Some.ensures.value in
    let at : i + 1 ≡ length rows = omega (arith, slice_get_within rows i row read) in
    let left = (rows_value (take i rows) ls).left in
    c.is_blank_ending.ensures left
    ∙ ap (λ (r : Row). is_blank_row (row_value r left)) (sym (get_or_from_slice_get rows i row row read))
    ∙ sym (last_row rows ls i row at)
