use Rattle.std.proofs.Common.{◌∙◌, sym, None, false}
use Rattle.compile_rows.proofs.Prelude.{part_rows, rows_view}
use Rattle.compile_rows.proofs.Pushed.{along}
use Rattle.compile_rows.proofs.RowParts.{link_row, image_row, parts_by}
use Rattle.compile_rows.proofs.rows.push_unspanned.Goals as goal

pub returns-then-eq : goal.returns-then-eq
returns-then-eq g c leads at strings =
    let names = g.T.Tables.reference_of c.args.texts.now.tables.now in
    let bytes = c.args.texts.now.bytes.now in
    let in_link = c.args.texts.now.linked in
    along c.push_row.result (rows_view at c.push_row.new.rows.items) (rows_view at c.args.rows.now.items) _
    (part_rows names bytes leads in_link None c.args.name c.args.links c.args.events.now)
    (link_row names bytes leads in_link c.args.name c.args.links c.args.events.now _ _ (sym c.eq.ensures ∙ c.if-eq.true) strings.spelled
    (c.link_target-target.ensures at)) (c.push_row.ensures at)

pub returns-then-eq-2 : goal.returns-then-eq-2
returns-then-eq-2 g c leads at strings =
    let names = g.T.Tables.reference_of c.args.texts.now.tables.now in
    let bytes = c.args.texts.now.bytes.now in
    let in_link = c.args.texts.now.linked in
    along c.push_row-then-eq-2.result (rows_view at c.push_row-then-eq-2.new.rows.items) (rows_view at c.args.rows.now.items) _
    (part_rows names bytes leads in_link None c.args.name c.args.links c.args.events.now)
    (image_row names bytes leads in_link c.args.name c.args.links c.args.events.now _ _ (sym c.eq.ensures ∙ c.if-eq.false)
    (sym c.eq-else-eq.ensures ∙ c.if-eq-2.true) strings.spelled (c.link_target-target-then-eq-2.ensures at)) (c.push_row-then-eq-2.ensures at)

pub returns-else-eq-2 : goal.returns-else-eq-2
returns-else-eq-2 g c leads at strings =
    let names = g.T.Tables.reference_of c.args.texts.now.tables.now in
    let bytes = c.args.texts.now.bytes.now in
    let in_link = c.args.texts.now.linked in
    along c.push_alone.result (rows_view at c.push_alone.new.rows.items) (rows_view at c.args.rows.now.items) _
    (part_rows names bytes leads in_link None c.args.name c.args.links c.args.events.now)
    (sym (parts_by names bytes leads in_link c.args.name c.args.links c.args.events.now false false (sym c.eq.ensures ∙ c.if-eq.false)
    (sym c.eq-else-eq.ensures ∙ c.if-eq-2.false))) (c.push_alone.ensures leads at strings)
