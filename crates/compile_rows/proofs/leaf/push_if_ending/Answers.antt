use Rattle.std.proofs.Common.{Option, ap, map, sym}
use Rattle.compile_rows.proofs.Prelude.{LineEnd, Part, rows_view}
use Rattle.markdown_options.specs.declared.line_ending.LineEnding.{LineEnding}
use Rattle.definition_text.specs.Content.{ending_code}
use Rattle.compile_rows.proofs.Pushed.{along}
use Rattle.compile_rows.proofs.leaf.push_if_ending.Goals as goal

pub returns-in-Some : goal.returns-in-Some
returns-in-Some g c at =
    along c.push_part.result (rows_view at c.push_part.new.rows.items) (rows_view at c.args.rows.now.items) _ (map Part (map LineEnd (ending_code c.args.ending)))
    (ap (λ (z : Option LineEnding). map Part (map LineEnd (ending_code z))) (sym c.in-Some.is)) (c.push_part.ensures at)
