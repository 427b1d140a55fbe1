use Rattle.std.proofs.Common.{◌∙◌, sym, ap}
use Rattle.compile_rows.proofs.Prelude.{alone_rows, option_map, rows_view, sequence_of}
use Rattle.compile_rows.proofs.Pushed.{along}
use Rattle.compile_rows.proofs.RowParts.{raw_row, no_raw_row}
use Rattle.compile_rows.proofs.rows.push_alone.Goals as goal

pub returns-in-Some : goal.returns-in-Some
returns-in-Some g c leads at strings =
    let names = g.T.Tables.reference_of c.args.texts.now.tables.now in
    let bytes = c.args.texts.now.bytes.now in
    let in_link = c.args.texts.now.linked in
    along c.push_row.result (rows_view at c.push_row.new.rows.items) (rows_view at c.args.rows.now.items) _
    (alone_rows names bytes leads in_link (sequence_of c.args.name) c.args.name c.args.links c.args.events.now)
    (raw_row names bytes leads in_link c.args.name c.args.links c.args.events.now (sequence_of c.args.name) c.in-Some.text.now _
    (sym (ap (option_map (λ text. text.now)) c.in-Some.is) ∙ strings.raw_text) c.raw_leaf.ensures) (c.push_row.ensures at)

pub returns-in-None : goal.returns-in-None
returns-in-None g c leads at strings =
    let names = g.T.Tables.reference_of c.args.texts.now.tables.now in
    let bytes = c.args.texts.now.bytes.now in
    let in_link = c.args.texts.now.linked in
    along c.push_other.result (rows_view at c.push_other.new.rows.items) (rows_view at c.args.rows.now.items) _
    (alone_rows names bytes leads in_link (sequence_of c.args.name) c.args.name c.args.links c.args.events.now)
    (no_raw_row names bytes leads in_link c.args.name c.args.links c.args.events.now (sequence_of c.args.name)
    (sym (ap (option_map (λ text. text.now)) c.in-None.is) ∙ strings.raw_text)) (c.push_other.ensures leads at strings)
