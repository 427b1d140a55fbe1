use Rattle.std.proofs.Common.{◌≡◌, Bool, List, string_bytes, ap, ◌∙◌, subst}
use Rattle.html_page.proofs.Prelude.{document_by, ending_bytes, fold, IfOk, last_piece, lay, LayoutState, LineEnding, page_view, piece_lines, print_all}
use Rattle.html_page.proofs.Prelude.{printer_view, PrinterView, Row, rows_value, with_footnotes}
use Rattle.html_rows.specs.Printing.{blank_page, ends_blank_rows, rows_html}
use Rattle.html_rows.proofs.RowsOf.{rows_html_of}
use Rattle.html_page.proofs.printer.print_rows.Goals as goal

pub returns : goal.returns
returns g c = λ ds has bs rows_are can.
    let d = document_by g.T.Tables c.args.texts.now ds in
    let o = d.options.compile in
    let all = piece_lines c.args.pieces.items in
    let e = c.args.default_ending in
    let default = ending_bytes e in
    let every = (rows_value c.args.rows.items all).rows in
    let printer = c.in_ok-printer.printer in
    let after = c.parts.new.self in
    let last = λ (ending : LineEnding) (out : LayoutState) (blank : Bool).
    with_footnotes o (ending_bytes ending) (fold (lay o (ending_bytes ending)) out (last_piece blank)) in
    let started : printer_view printer ≡ blank_page every =
    c.in_ok-printer.ensures.blank all ∙ ap (λ (rs : List Row). blank_page (rows_value rs all).rows) c.deref-2.ensures.value in
    let printed : printer_view after ≡ print_all d default (blank_page every) every =
    c.in_ok-parts.ensures.printed ds has
    ∙ ap (λ (ending : LineEnding). print_all d (ending_bytes ending) (printer_view printer) every) c.in_ok-printer.ensures.default
    ∙ ap (λ (p : PrinterView). print_all d default p every) started in
    subst (λ x. IfOk c.finish.result (λ html. string_bytes html ≡ x))
    (ap (λ (ending : LineEnding). last ending (page_view after.leaves.page) c.ends_blank-blank.result)
    (c.in_ok-parts.ensures.default ∙ c.in_ok-printer.ensures.default)
    ∙ ap (λ (p : PrinterView). last e p.out c.ends_blank-blank.result) printed
    ∙ ap (last e (print_all d default (blank_page every) every).out)
    (c.ends_blank-blank.ensures all ∙ ap (λ (rs : List Row). ends_blank_rows (rows_value rs all).rows) c.deref.ensures.value)
    ∙ ap (rows_html d default) rows_are
    ∙ rows_html_of d default bs can)
    c.finish.ensures
