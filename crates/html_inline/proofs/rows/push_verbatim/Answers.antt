use Rattle.std.proofs.Common.{◌≡◌, ◌++◌, [], string_bytes, sym, ap, ◌∙◌, rules}
use Rattle.html_inline.proofs.Prelude.{fold, leads_to, on_ok_weaker, OnOk, output_view, parts_in_cell, printed_at, PrintState, row_printed_in, with_row}
use Rattle.html_inline.proofs.Prelude.{with_text}
use Rattle.inline_rows.specs.InlineRows as rows_of
use Rattle.html_inline.proofs.CellRows.{rows_shown, fold_shown}
use Rattle.html_inline.proofs.OpenStack.{lines_printed}
use Rattle.html_inline.proofs.RowsPrinted.{content_printed}
use Rattle.html_inline.proofs.rows.push_verbatim.Goals as goal

pub returns : goal.returns
returns g c = λ meaning default cell is rows_are.
    let out = output_view c.args.out.now in
    let verbatim = c.args.verbatim in
    let text = verbatim.text.now in
    let printed : OnOk c.push_str.result (string_bytes c.push_str.new.self ≡ out.text ++ text) = search rules in
    on_ok_weaker c.push_str.result
    (λ (e : string_bytes c.push_str.new.self ≡ out.text ++ text).
    ap (with_text out) (e ∙ ap (λ t. out.text ++ t) (sym verbatim.same))
    ∙ ap (λ (q : PrintState). q.laid)
    (sym (lines_printed cell meaning [] out text)
    ∙ ap (fold (row_printed_in cell meaning) (printed_at out [])) rows_are
    ∙ fold_shown cell meaning (printed_at out []) (rows_of.inline_rows (leads_to meaning.definition) is)
    ∙ ap (fold (with_row meaning) (printed_at out [])) (rows_shown (leads_to meaning.definition) cell is)
    ∙ content_printed meaning default (parts_in_cell cell is) out))
    printed
