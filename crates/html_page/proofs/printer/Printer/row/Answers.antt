use Rattle.std.proofs.Common.{◌≡◌, ◌∙◌, ap, sym, subst}
use Rattle.std.specs.Prelude.{reverse}
use Rattle.html_page.proofs.Prelude.{document_by, ending_bytes, LayoutState, page_view, piece_lines, print_row, printer_view, Row, row_value}
use Rattle.block_rows.specs.declared.row.Row.TheVariants as row
use Rattle.html_looseness.specs.declared.level.Level.{Level}
use Rattle.html_looseness.specs.Levels.{level_after}
use Rattle.html_rows.specs.Printing.{printer_at}
use Rattle.html_page.proofs.printer.Printer.row.Goals as goal

pub returns-in_ok-line_ending-in-Ending-clause-printed :
    goal.returns-in_ok-line_ending-in-Ending-clause-printed
returns-in_ok-line_ending-in-Ending-clause-printed g c = λ ds has.
    let d = document_by g.T.Tables c.args.texts.now ds in
    let p = c.args.self.now in
    let lines = piece_lines c.args.lines.now in
    let after = page_view c.line_ending.new.self.page in
    let level = c.pass.new.self in
    let at = λ (out : LayoutState) (l : Level). printer_at out l (reverse p.containers.outer.items) (reverse p.containers.places.items) in
    subst (λ (row : Row). at after level ≡ print_row d (ending_bytes p.leaves.page.default_ending) (printer_view p) (row_value row lines)) (sym c.in-Ending.is)
    (ap (at after) (c.pass.ensures lines)
    ∙ ap (λ (out : LayoutState). at out (level_after p.containers.level (row_value (row.Ending c.in-Ending.ending) lines)))
    (c.in_ok-line_ending-in-Ending.ensures.printed d))
