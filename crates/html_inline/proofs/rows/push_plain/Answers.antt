use Rattle.std.proofs.Common.{◌≡◌, ◌++◌, [], string_bytes, sym, ap, ◌∙◌}
use Rattle.html_inline.proofs.Prelude.{encode, fold, leads_to, on_ok_weaker, output_view, parts_in_cell, printed_at, PrintState, row_printed_in, with_row}
use Rattle.html_inline.proofs.Prelude.{with_text}
use Rattle.inline_rows.specs.InlineRows as rows_of
use Rattle.html_inline.proofs.CellRows.{rows_shown, fold_shown}
use Rattle.html_inline.proofs.OpenStack.{text_printed}
use Rattle.html_inline.proofs.RowsPrinted.{content_printed}
use Rattle.html_inline.proofs.rows.push_plain.Goals as goal

pub returns : goal.returns
returns g c = λ meaning default cell is rows_are.
    let out = output_view c.args.out.now in
    on_ok_weaker c.push_encoded.result
    (λ (e : string_bytes c.push_encoded.new.out ≡ out.text ++ encode c.args.text.now).
    ap (with_text out) e
    ∙ ap (λ (q : PrintState). q.laid)
    (sym (text_printed cell meaning [] out c.args.text.now)
    ∙ ap (fold (row_printed_in cell meaning) (printed_at out [])) rows_are
    ∙ fold_shown cell meaning (printed_at out []) (rows_of.inline_rows (leads_to meaning.definition) is)
    ∙ ap (fold (with_row meaning) (printed_at out [])) (rows_shown (leads_to meaning.definition) cell is)
    ∙ content_printed meaning default (parts_in_cell cell is) out))
    c.push_encoded.ensures
