use Rattle.compile_rows.proofs.Prelude.{literal_kind, literal_rows, rows_view, valid}
use Rattle.compile_rows.proofs.Pushed.{along, literal_row}
use Rattle.compile_rows.proofs.leaf.push_literal.Goals as goal

pub returns-else-linked : goal.returns-else-linked
returns-else-linked g c at =
    along c.push_part.result (rows_view at c.push_part.new.rows.items) (rows_view at c.args.rows.now.items) _
    (literal_rows c.args.linked (literal_kind c.args.name) (valid c.args.piece.now))
    (literal_row c.args.linked c.args.name c.literal_kind.result _ _ c.args.piece.now c.literal_kind.ensures c.in-Some.is c.text_of-text.ensures
    c.if-linked.false) (c.push_part.ensures at)
