use Rattle.std.proofs.Common.{◌≡◌, sym, ap, ◌∙◌, subst}
use Rattle.html_inline.proofs.Prelude.{append-nil, content_codes, count_at, first_match, fold, in_bytes, InlineRow, lay, line_leaf, map, normal_label}
use Rattle.html_inline.proofs.Prelude.{output_view, parts_of, row_view, rows_counts}
use Rattle.std.specs.Result.{OnOk}
use Rattle.html_inline.proofs.Counts.{data_counts, leaves_counts}
use Rattle.html_inline.proofs.count.count_row.Goals as goal

pub returns-in-Call : goal.returns-in-Call
returns-in-Call g c = λ meaning at default held.
    let codes = content_codes c.in-Call.label.now in
    subst (λ (row : InlineRow). OnOk c.count_call.result (output_view c.count_call.new.out
    ≡ fold (lay meaning.compile default) (output_view c.args.out.now) (in_bytes (rows_counts meaning (row_view at row)))))
    (sym c.in-Call.is) (subst (λ ps. OnOk c.count_call.result (output_view c.count_call.new.out
    ≡ fold (lay meaning.compile default) (output_view c.args.out.now) (in_bytes ps)))
    (sym (append-nil (count_at (first_match codes meaning.footnotes) (normal_label codes))))
    (c.count_call.ensures meaning.compile default meaning.footnotes held))

pub returns-in-Text : goal.returns-in-Text
returns-in-Text g c = λ meaning at default held.
    sym (ap (λ (row : InlineRow). fold (lay meaning.compile default) (output_view c.args.out.now) (in_bytes (rows_counts meaning (row_view at row)))) c.in-Text.is
    ∙ ap (λ ps. fold (lay meaning.compile default) (output_view c.args.out.now) (in_bytes ps)) (data_counts meaning c.in-Text.field-0.now))

pub returns-in-Verbatim : goal.returns-in-Verbatim
returns-in-Verbatim g c = λ meaning at default held.
    sym (ap (λ (row : InlineRow). fold (lay meaning.compile default) (output_view c.args.out.now) (in_bytes (rows_counts meaning (row_view at row)))) c.in-Verbatim.is
    ∙ ap (λ ps. fold (lay meaning.compile default) (output_view c.args.out.now) (in_bytes ps))
    (leaves_counts meaning (map line_leaf c.in-Verbatim.field-0.text.now)))

pub returns-in-Leaf : goal.returns-in-Leaf
returns-in-Leaf g c = λ meaning at default held.
    sym (ap (λ (row : InlineRow). fold (lay meaning.compile default) (output_view c.args.out.now) (in_bytes (rows_counts meaning (row_view at row)))) c.in-Leaf.is
    ∙ ap (λ ps. fold (lay meaning.compile default) (output_view c.args.out.now) (in_bytes ps)) (leaves_counts meaning (parts_of c.in-Leaf.field-0)))

pub returns-in-Spelled : goal.returns-in-Spelled
returns-in-Spelled g c = λ meaning at default held.
    sym (ap (λ (row : InlineRow). fold (lay meaning.compile default) (output_view c.args.out.now) (in_bytes (rows_counts meaning (row_view at row)))) c.in-Spelled.is)
