use Rattle.std.proofs.Common.{◌≡◌, ◌+◌, List, sym, ap, ◌∙◌, take, drop, get_or, arith, length, ◌-◌, subst}
use Rattle.html_page.proofs.Prelude.{BlockLine, document_by, ending_bytes, LineEnding, piece_line, piece_lines, print_all, print_row, printer_view}
use Rattle.html_page.proofs.Prelude.{PrinterView, Row, row_size, row_value, rows_value, take_rest}
use Rattle.block_rows.specs.declared.row.Row.TheVariants.{Paragraph}
use Rattle.block_rows.specs.Rows.{RowsValue}
use Rattle.html_looseness.specs.Printable.{IsPrintableRow}
use Rattle.block_rows.proofs.RowSteps.{shown_more, taken_more, left_more}
use Rattle.html_rows.proofs.RowSteps.{printed_more, printable_at}
use Rattle.html_page.proofs.printer.Printer.rows.Goals as goal

pub row-requires-clause-printable : goal.row-requires-clause-printable
row-requires-clause-printable g c =
    let rows = c.args.rows.now in
    let pieces = c.args.pieces.now in
    let i = c.loop-row.row-index in
    let row : Row = get_or rows i (Paragraph 0) in
    subst (λ (ls : List BlockLine). IsPrintableRow (row_value row ls))
    (c.loop-row.invariant.left ∙ sym (ap piece_lines (take_rest pieces c.loop-row.taken)))
    (printable_at rows (piece_lines pieces) i (Paragraph 0) c.loop-row-test.true c.requires.printable)

pub loop-row-preserved : goal.loop-row-preserved
loop-row-preserved g c =
    let rows = c.args.rows.now in
    let pieces = c.args.pieces.now in
    let i = c.loop-row.row-index in
    let row : Row = get_or rows i (Paragraph 0) in
    let default = ending_bytes c.args.self.now.leaves.page.default_ending in
    let all = piece_lines pieces in
    let start = printer_view c.args.self.now in
    let so_far = rows_value (take i rows) all in
    let k = c.loop-row.invariant in
    let more = shown_more rows all i (Paragraph 0) c.loop-row-test.true in
    let rest : List BlockLine = piece_lines (take (length pieces - c.loop-row.taken) (drop c.loop-row.taken pieces)) in
    let at : rest ≡ so_far.left = ap piece_lines (take_rest pieces c.loop-row.taken) ∙ sym k.left in
    record {
      same_default = c.in_ok-taken.ensures.default ∙ k.same_default;
      printed = λ ds has.
          let d = document_by g.T.Tables c.args.texts.now ds in
          c.in_ok-taken.ensures.printed ds has
          ∙ ap (λ (e : LineEnding). print_row d (ending_bytes e) (printer_view c.loop-row.self) (row_value row rest)) k.same_default
          ∙ ap (λ (ls : List BlockLine). print_row d default (printer_view c.loop-row.self) (row_value row ls)) at
          ∙ ap (λ (p : PrinterView). print_row d default p (row_value row so_far.left)) (k.printed ds has)
          ∙ sym (ap (λ (s : RowsValue). print_all d default start s.rows) more ∙ printed_more d default start so_far.rows (row_value row so_far.left));
      left =
          ap (λ (s : RowsValue). s.left) more
          ∙ ap (drop (row_size row)) k.left
          ∙ left_more piece_line (row_size row) c.loop-row.taken pieces
          ∙ ap (λ n. piece_lines (drop (c.loop-row.taken + n) pieces)) (sym c.in_ok-taken.ensures.size);
      size = omega (arith, k.size, c.in_ok-taken.ensures.size, taken_more rows i (Paragraph 0) c.loop-row-test.true);
    }
