use Rattle.std.proofs.Common.{◌∙◌, sym}
use Rattle.compile_rows.proofs.Prelude.{html_part_rows, rows_view}
use Rattle.compile_rows.proofs.Pushed.{along, data_lines, html_ending}
use Rattle.compile_rows.proofs.leaf.push_html_part.Goals as goal

pub returns-then-eq : goal.returns-then-eq
returns-then-eq g c at =
    along c.push_html_data.result (rows_view at c.push_html_data.new.rows.items) (rows_view at c.args.rows.now.items) _
    (html_part_rows c.args.name c.args.piece.now)
    (data_lines c.args.name _ c.args.piece.now c.text_of.ensures (sym c.eq.ensures ∙ c.if-eq.true)) (c.push_html_data.ensures at)

pub returns-then-eq-2 : goal.returns-then-eq-2
returns-then-eq-2 g c at =
    along c.push_ending.result (rows_view at c.push_ending.new.rows.items) (rows_view at c.args.rows.now.items) _ (html_part_rows c.args.name c.args.piece.now)
    (html_ending c.args.name c.args.piece.now (sym c.eq.ensures ∙ c.if-eq.false) (sym c.eq-else-eq.ensures ∙ c.if-eq-2.true)) (c.push_ending.ensures at)
