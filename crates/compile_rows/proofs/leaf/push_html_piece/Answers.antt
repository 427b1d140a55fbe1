use Rattle.std.proofs.Common.{length, map, sym, ◌∙◌, arith}
use Rattle.compile_rows.proofs.Prelude.{Part, rows_view}
use Rattle.std.proofs.lemmas.Bool.{eqb-false}
use Rattle.event_meaning.specs.Texts.{html_piece}
use Rattle.compile_rows.proofs.Pushed.{along, piece_row}
use Rattle.compile_rows.proofs.leaf.push_html_piece.Goals as goal

pub returns : goal.returns
returns g c at =
    let piece = c.args.piece.now in
    along c.push_part.result (rows_view at c.push_part.new.rows.items) (rows_view at c.args.rows.now.items) _ (map Part (html_piece piece))
    (piece_row piece (omega (arith, eqb-false (length piece) 0 (sym c.is_empty.ensures ∙ c.if-is_empty.false)))) (c.push_part.ensures at)
