use Rattle.std.proofs.Common.{◌≡◌, List, sym, ap, ◌∙◌, take}
use Rattle.html_inline.proofs.Prelude.{fold, in_bytes, InlineRow, lay, leads_to, meaning_by, output_view, Piece, place_target, row_view, rows_counts}
use Rattle.html_inline.proofs.Prelude.{rows_view, take_all}
use Rattle.inline_rows.specs.InlineRows as rows_of
use Rattle.html_inline.proofs.Counts.{counts_more, rows_counted, shown_counts}
use Rattle.html_inline.proofs.count.count_rows.Goals as goal

pub loop-row-preserved : goal.loop-row-preserved
loop-row-preserved g c = λ definition footnotes default held.
    let p = c.args.printing.now in
    let meaning = meaning_by (g.T.Tables.reference_of p.tables.now) p definition footnotes in
    let at = place_target p.definitions.now in
    let laid = λ (r : InlineRow). fold (lay meaning.compile default) (output_view c.loop-row.out) (in_bytes (rows_counts meaning (row_view at r))) in
    counts_more meaning at default c.args.rows.now c.loop-row.row-index c.row-item.result (output_view c.args.out.now) (output_view c.loop-row.out)
    (output_view c.count_row.new.out) c.loop-row-test.true
    (c.loop-row.invariant definition footnotes default held) (c.in_ok-count_row.ensures meaning at default held ∙ ap laid c.row-item.is)

pub returns : goal.returns
returns g c = λ definition footnotes default is held rows_are.
    let p = c.args.printing.now in
    let meaning = meaning_by (g.T.Tables.reference_of p.tables.now) p definition footnotes in
    let at = place_target p.definitions.now in
    let rows = c.args.rows.now in
    let laid = λ (ps : List Piece). fold (lay meaning.compile default) (output_view c.args.out.now) (in_bytes ps) in
    let whole : take c.loop-row.row-index rows ≡ rows = take_all c.loop-row.row-index rows c.loop-row-test.false in
    c.loop-row.invariant definition footnotes default held
    ∙ ap (λ (rs : List InlineRow). laid (rows_counts meaning (rows_view at rs))) whole
    ∙ ap (λ (rs : List rows_of.InlineRow). laid (rows_counts meaning rs)) rows_are
    ∙ ap laid (rows_counted meaning (leads_to definition) is ∙ sym (shown_counts meaning p.cell is))
