use Rattle.std.proofs.Common.{◌≡◌, List, [], sym, ap, ◌∙◌, take}
use Rattle.html_inline.proofs.Prelude.{fold, InlineRow, leads_to, meaning_by, output_view, parts_in_cell, place_target, printed_at, printed_of, PrintState}
use Rattle.html_inline.proofs.Prelude.{row_printed_in, row_view, rows_view, take_all, with_row}
use Rattle.std.proofs.lemmas.List.{get_or_default}
use Rattle.inline_rows.specs.InlineRows as rows_of
use Rattle.inline_rows.specs.declared.row.InlineRow.TheVariants.{Exit}
use Rattle.html_inline.proofs.CellRows.{rows_shown, fold_shown}
use Rattle.html_inline.proofs.OpenStack.{rows_step}
use Rattle.html_inline.proofs.RowsPrinted.{content_printed}
use Rattle.html_inline.proofs.rows.push_rows.Goals as goal

pub push_row-requires : goal.push_row-requires
push_row-requires g c =
    get_or_default c.args.rows.now c.loop-place.place Exit c.index-rows-place.result c.loop-place-test.true ∙ sym c.index-rows-place.is

pub loop-place-preserved : goal.loop-place-preserved
loop-place-preserved g c = λ definition footnotes held.
    let p = c.args.printing.now in
    let meaning = meaning_by (g.T.Tables.reference_of p.tables.now) p definition footnotes in
    let at = place_target p.definitions.now in
    let rows = c.args.rows.now in
    let before = printed_of meaning at rows (output_view c.loop-place.out) c.loop-place.scratch.stack.items in
    rows_step p.cell meaning at (printed_at (output_view c.args.out.now) []) before
    (printed_of meaning at rows (output_view c.push_row.new.out) c.push_row.new.scratch.stack.items)
    rows c.loop-place.place c.index-rows-place.result c.loop-place-test.true (c.loop-place.invariant definition footnotes held)
    (c.in_ok-push_row.ensures definition footnotes held
    ∙ ap (λ (r : InlineRow). fold (row_printed_in p.cell meaning) before (row_view at r)) c.index-rows-place.is)

pub returns : goal.returns
returns g c = λ definition footnotes default is held rows_are.
    let p = c.args.printing.now in
    let meaning = meaning_by (g.T.Tables.reference_of p.tables.now) p definition footnotes in
    let at = place_target p.definitions.now in
    let rows = c.args.rows.now in
    let out = output_view c.args.out.now in
    let whole : take c.loop-place.place rows ≡ rows = take_all c.loop-place.place rows c.loop-place-test.false in
    ap (λ (q : PrintState). q.laid)
    (c.loop-place.invariant definition footnotes held
    ∙ ap (λ (rs : List InlineRow). fold (row_printed_in p.cell meaning) (printed_at out []) (rows_view at rs)) whole
    ∙ ap (λ (rs : List rows_of.InlineRow). fold (row_printed_in p.cell meaning) (printed_at out []) rs) rows_are
    ∙ fold_shown p.cell meaning (printed_at out []) (rows_of.inline_rows (leads_to meaning.definition) is)
    ∙ ap (fold (with_row meaning) (printed_at out [])) (rows_shown (leads_to meaning.definition) p.cell is)
    ∙ content_printed meaning default (parts_in_cell p.cell is) out)
