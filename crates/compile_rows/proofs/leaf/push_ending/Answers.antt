use Rattle.std.proofs.Common.{◌∷◌, [], ap}
use Rattle.compile_rows.proofs.Prelude.{ending_rows, line_ending_code, LineEnd, Part, rows_view}
use Rattle.compile_rows.proofs.Pushed.{along}
use Rattle.markdown_options.specs.declared.line_ending.LineEnding.{LineEnding}
use Rattle.compile_rows.proofs.leaf.push_ending.Goals as goal

pub returns : goal.returns
returns g c at =
    along c.push_part.result (rows_view at c.push_part.new.rows.items) (rows_view at c.args.rows.now.items) _ (ending_rows c.args.piece.now)
    (ap (λ (z : LineEnding). Part (LineEnd (line_ending_code z)) ∷ []) c.ending_of.ensures) (c.push_part.ensures at)
