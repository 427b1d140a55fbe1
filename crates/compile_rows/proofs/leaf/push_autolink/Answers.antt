use Rattle.std.proofs.Common.{◌∙◌, ◌∷◌, [], sym}
use Rattle.compile_rows.proofs.Prelude.{autolink_by, Part, rows_view}
use Rattle.compile_rows.proofs.Pushed.{along, email_row, protocol_row}
use Rattle.compile_rows.proofs.leaf.push_autolink.Goals as goal

pub returns-then-has : goal.returns-then-has
returns-then-has g c at =
    along c.push_part.result (rows_view at c.push_part.new.rows.items) (rows_view at c.args.rows.now.items) _
    (Part (autolink_by c.args.bytes.now c.args.events.now) ∷ [])
    (email_row c.args.bytes.now c.args.events.now _ c.value_of-text.ensures (sym c.has.ensures ∙ c.if-has.true)) (c.push_part.ensures at)

pub returns-else-has : goal.returns-else-has
returns-else-has g c at =
    along c.push_part-else-has.result (rows_view at c.push_part-else-has.new.rows.items) (rows_view at c.args.rows.now.items) _
    (Part (autolink_by c.args.bytes.now c.args.events.now) ∷ [])
    (protocol_row c.args.bytes.now c.args.events.now _ c.value_of-text-else-has.ensures (sym c.has.ensures ∙ c.if-has.false)) (c.push_part-else-has.ensures at)
