use Rattle.std.proofs.Common.{◌≡◌, List, [], sym, ap, ◌∙◌, take, drop, arith, length, length-drop, subst, vec_len}
use Rattle.std.proofs.lemmas.Bool.{eqb-true}
use Rattle.html_page.proofs.Prelude.{ArePrintable, BlockLine, document_by, ending_bytes, LineEnding, nil_from_length, piece_lines, print_all, print_row}
use Rattle.html_page.proofs.Prelude.{printer_view, PrinterView, Row, row_size, rows_size, rows_value}
use Rattle.std.proofs.lemmas.List.Sums.{fold-append, sum_by-take-drop}
use Rattle.text_pieces.specs.declared.piece.Piece.{Piece}
use Rattle.block_rows.specs.Rows.{BlockRow}
use Rattle.html_rows.proofs.RowSteps.{shown_from, printable_front, printable_rest}
use Rattle.html_page.proofs.printer.Printer.parts.Goals as goal

-- rows and pieces that were lent are those that are left
lent_again : (lent rows : List Row) (lent_pieces pieces : List Piece) → lent ≡ rows → lent_pieces ≡ pieces
    → (rows_value lent (piece_lines lent_pieces)).rows ≡ (rows_value rows (piece_lines pieces)).rows
lent_again lent rows lent_pieces pieces same same_pieces =
    ap (λ (rs : List Row). (rows_value rs (piece_lines lent_pieces)).rows) same
    ∙ ap (λ (ps : List Piece). (rows_value rows (piece_lines ps)).rows) same_pieces

pub rows-requires-clause-printable : goal.rows-requires-clause-printable
rows-requires-clause-printable g c =
    let rows = c.deref.result.now in
    let pieces = c.deref-in-loop-rows.result.now in
    let same = lent_again rows c.loop-rows.rows.items pieces c.loop-rows.pieces.items c.deref.ensures.value c.deref-in-loop-rows.ensures.value in
    printable_front rows (piece_lines pieces) c.part-count.result (subst ArePrintable (sym same) c.loop-rows.invariant.printable)

pub loop-rows-preserved : goal.loop-rows-preserved
loop-rows-preserved g c =
    let rows = c.deref.result.now in
    let pieces = c.deref-in-loop-rows.result.now in
    let ls = piece_lines pieces in
    let i = c.part-count.result in
    let n = c.in_ok-taken.taken in
    let k = c.loop-rows.invariant in
    let done = c.in_ok-taken.ensures in
    let same = lent_again rows c.loop-rows.rows.items pieces c.loop-rows.pieces.items c.deref.ensures.value c.deref-in-loop-rows.ensures.value in
    let front = (rows_value (take i rows) ls).rows in
    let rest = (rows_value (drop i rows) (rows_value (take i rows) ls).left).rows in
    let rows_left : c.remove_front.new.items.items ≡ drop i rows = c.remove_front.ensures.items ∙ ap (drop i) (sym c.deref.ensures.value) in
    let pieces_left : c.remove_front-in-loop-rows.new.items.items ≡ drop n pieces =
    c.remove_front-in-loop-rows.ensures.items ∙ ap (drop n) (sym c.deref-in-loop-rows.ensures.value) in
    let moved : (rows_value c.remove_front.new.items.items (piece_lines c.remove_front-in-loop-rows.new.items.items)).rows ≡ rest =
    lent_again c.remove_front.new.items.items (drop i rows) c.remove_front-in-loop-rows.new.items.items (drop n pieces) rows_left pieces_left
    ∙ ap (λ (left : List BlockLine). (rows_value (drop i rows) left).rows) (sym done.left) in
    let default = ending_bytes c.args.self.now.leaves.page.default_ending in
    let before = printer_view c.loop-rows.self in
    record {
      same_default = done.default ∙ k.same_default;
      enough = omega (
        arith,
        k.enough,
        done.size,
        ap rows_size rows_left,
        ap rows_size c.deref.ensures.value,
        sum_by-take-drop row_size rows i,
        ap length pieces_left,
        length-drop n pieces,
        c.deref-in-loop-rows.ensures.len,
        c.remove_front-in-loop-rows.new.items.ok.0,
      );
      printable = subst ArePrintable (sym moved) (printable_rest rows ls i (subst ArePrintable (sym same) k.printable));
      printed = λ ds has.
          let d = document_by g.T.Tables c.args.texts.now ds in
          let all = print_all d default before in
          ap (λ (bs : List BlockRow). print_all d default (printer_view c.rows.new.self) bs) moved
          ∙ ap (λ (p : PrinterView). print_all d default p rest)
          (done.printed ds has ∙ ap (λ (e : LineEnding). print_all d (ending_bytes e) before front) k.same_default)
          ∙ sym (fold-append (print_row d default) before front rest)
          ∙ ap all (sym (shown_from rows ls i) ∙ same)
          ∙ k.printed ds has;
    }

pub returns-clause-printed : goal.returns-clause-printed
returns-clause-printed g c = λ ds has.
    let d = document_by g.T.Tables c.args.texts.now ds in
    let default = ending_bytes c.args.self.now.leaves.page.default_ending in
    let len : vec_len c.loop-rows.rows ≡ 0 = eqb-true (vec_len c.loop-rows.rows) 0 (sym c.is_empty.ensures ∙ c.loop-rows-test.false) in
    let none : c.loop-rows.rows.items ≡ [] = nil_from_length c.loop-rows.rows.items (omega (arith, len, c.loop-rows.rows.ok.0)) in
    sym (ap (λ (rs : List Row). print_all d default (printer_view c.loop-rows.self) (rows_value rs (piece_lines c.loop-rows.pieces.items)).rows) none)
    ∙ c.loop-rows.invariant.printed ds has
