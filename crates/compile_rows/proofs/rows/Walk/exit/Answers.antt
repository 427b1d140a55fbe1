use Rattle.std.proofs.Common.{◌∙◌, ◌∷◌, [], sym, arith}
use Rattle.compile_rows.proofs.Prelude.{exit_rows, Leave, rows_view}
use Rattle.compile_rows.proofs.Pushed.{along}
use Rattle.compile_rows.proofs.RowParts.{leave_rows}
use Rattle.compile_rows.proofs.rows.Walk.exit.Goals as goal

pub returns-clause-rows : goal.returns-clause-rows
returns-clause-rows g c at =
    along c.push_row.result (rows_view at c.push_row.new.rows.items) (rows_view at c.args.self.now.rows.items) (Leave ∷ [])
    (exit_rows c.args.self.now.place c.args.name)
    (leave_rows c.args.self.now.place c.args.name (omega arith) (sym c.eq.ensures ∙ c.if-eq.false) (sym c.eq-else-eq.ensures ∙ c.if-eq-2.false))
    (c.push_row.ensures at)
