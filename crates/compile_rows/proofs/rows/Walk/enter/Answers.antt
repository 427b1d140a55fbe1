use Rattle.std.proofs.Common.{◌∙◌, sym, ap}
use Rattle.compile_rows.proofs.Prelude.{enter_rows, rows_view, valid}
use Rattle.compile_rows.proofs.Pushed.{along}
use Rattle.compile_rows.proofs.RowParts.{data_row}
use Rattle.compile_rows.proofs.rows.Walk.enter.Goals as goal

pub returns-then-is_in_text-clause-rows : goal.returns-then-is_in_text-clause-rows
returns-then-is_in_text-clause-rows g c leads at targets raws left =
    let names = g.T.Tables.reference_of c.args.texts.now.tables.now in
    let bytes = c.args.texts.now.bytes.now in
    let in_link = c.args.texts.now.linked in
    let place = c.args.self.now.place in
    along c.push_row.result (rows_view at c.push_row.new.rows.items) (rows_view at c.args.self.now.rows.items) _
    (enter_rows names bytes leads in_link place c.args.name c.args.events.now)
    (data_row names bytes leads in_link c.args.events.now place c.args.name c.text_of.result.now (sym c.is_in_text.ensures ∙ c.if-is_in_text.true)
    (sym c.eq.ensures ∙ c.if-eq.true) (c.text_of.ensures ∙ ap valid c.text_first.ensures)) (c.push_row.ensures at)
