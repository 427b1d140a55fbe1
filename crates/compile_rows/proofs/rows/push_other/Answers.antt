use Rattle.std.proofs.Common.{◌∙◌, sym, ap, None}
use Rattle.engine_events.specs.declared.event.Name.TheVariants as n
use Rattle.compile_rows.proofs.Prelude.{alone_rows, has, rows_view}
use Rattle.compile_rows.proofs.Pushed.{along}
use Rattle.compile_rows.proofs.RowParts.{call_row, check_row, leaf_row}
use Rattle.compile_rows.proofs.rows.push_other.Goals as goal

pub returns-then-eq : goal.returns-then-eq
returns-then-eq g c leads at strings =
    let names = g.T.Tables.reference_of c.args.texts.now.tables.now in
    let bytes = c.args.texts.now.bytes.now in
    let in_link = c.args.texts.now.linked in
    along c.push_row.result (rows_view at c.push_row.new.rows.items) (rows_view at c.args.rows.now.items) _
    (alone_rows names bytes leads in_link None c.args.name c.args.links c.args.events.now)
    (call_row names bytes leads in_link c.args.name c.args.links c.args.events.now _ _ (sym c.eq.ensures ∙ c.if-eq.true) strings.spelled
    (c.call_label-label.ensures at)) (c.push_row.ensures at)

pub returns-then-eq-2 : goal.returns-then-eq-2
returns-then-eq-2 g c leads at strings =
    let names = g.T.Tables.reference_of c.args.texts.now.tables.now in
    let bytes = c.args.texts.now.bytes.now in
    let in_link = c.args.texts.now.linked in
    along c.push_row-then-eq-2.result (rows_view at c.push_row-then-eq-2.new.rows.items) (rows_view at c.args.rows.now.items) _
    (alone_rows names bytes leads in_link None c.args.name c.args.links c.args.events.now)
    (check_row names bytes leads in_link c.args.name c.args.links c.args.events.now _ (sym c.eq.ensures ∙ c.if-eq.false)
    (sym c.eq-else-eq.ensures ∙ c.if-eq-2.true) (c.has-done.ensures ∙ ap (has n.GfmTaskListItemValueChecked) c.inside.ensures))
    (c.push_row-then-eq-2.ensures at)

pub returns-else-eq-2 : goal.returns-else-eq-2
returns-else-eq-2 g c leads at strings =
    let names = g.T.Tables.reference_of c.args.texts.now.tables.now in
    let bytes = c.args.texts.now.bytes.now in
    let in_link = c.args.texts.now.linked in
    along c.push_leaf.result (rows_view at c.push_leaf.new.rows.items) (rows_view at c.args.rows.now.items) _
    (alone_rows names bytes leads in_link None c.args.name c.args.links c.args.events.now)
    (leaf_row names bytes leads in_link c.args.name c.args.links c.args.events.now c.is_linked-linked.result
    (sym c.eq.ensures ∙ c.if-eq.false) (sym c.eq-else-eq.ensures ∙ c.if-eq-2.false) c.is_linked-linked.ensures) (c.push_leaf.ensures at)
