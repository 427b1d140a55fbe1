use Rattle.std.proofs.Common.{◌∙◌, sym, ap, Option}
use Rattle.compile_rows.proofs.Prelude.{option_map, part_rows, rows_view, span_of, SpanKind}
use Rattle.inline_runs.specs.View.{span_view}
use Rattle.compile_rows.proofs.Pushed.{along}
use Rattle.compile_rows.proofs.rows.push_part.Goals as goal

pub returns-in-Some : goal.returns-in-Some
returns-in-Some g c leads at strings =
    let names = g.T.Tables.reference_of c.args.texts.now.tables.now in
    let bytes = c.args.texts.now.bytes.now in
    let in_link = c.args.texts.now.linked in
    along c.push_row.result (rows_view at c.push_row.new.rows.items) (rows_view at c.args.rows.now.items) _
    (part_rows names bytes leads in_link (span_of c.args.name) c.args.name c.args.links c.args.events.now)
    (ap (λ (z : Option SpanKind). part_rows names bytes leads in_link z c.args.name c.args.links c.args.events.now)
    (sym (ap (option_map span_view) c.in-Some.is) ∙ c.span_of.ensures)) (c.push_row.ensures at)

pub returns-in-None : goal.returns-in-None
returns-in-None g c leads at strings =
    let names = g.T.Tables.reference_of c.args.texts.now.tables.now in
    let bytes = c.args.texts.now.bytes.now in
    let in_link = c.args.texts.now.linked in
    along c.push_unspanned.result (rows_view at c.push_unspanned.new.rows.items) (rows_view at c.args.rows.now.items) _
    (part_rows names bytes leads in_link (span_of c.args.name) c.args.name c.args.links c.args.events.now)
    (ap (λ (z : Option SpanKind). part_rows names bytes leads in_link z c.args.name c.args.links c.args.events.now)
    (sym (ap (option_map span_view) c.in-None.is) ∙ c.span_of.ensures)) (c.push_unspanned.ensures leads at strings)
