use Rattle.std.proofs.Common.{arith}
use Rattle.compile_rows.proofs.Prelude.{enter_rows, rows_view}
use Rattle.compile_rows.specs.declared.rows.Mode.TheVariants.{Text}
use Rattle.compile_rows.proofs.Pushed.{along}
use Rattle.compile_rows.proofs.RowParts.{place_rows}
use Rattle.compile_rows.proofs.rows.push_entered.Goals as goal

pub returns-in-Text : goal.returns-in-Text
returns-in-Text g c leads at strings =
    let names = g.T.Tables.reference_of c.args.texts.now.tables.now in
    let bytes = c.args.texts.now.bytes.now in
    let in_link = c.args.texts.now.linked in
    along c.push_part.result (rows_view at c.push_part.new.rows.items) (rows_view at c.args.rows.now.items) _
    (enter_rows names bytes leads in_link c.args.place c.args.name c.args.events.now)
    (place_rows names bytes leads in_link c.args.name 0 c.args.events.now c.args.place Text (omega arith) c.in-Text.is)
    (c.push_part.ensures leads at strings)
