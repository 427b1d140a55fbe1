use Rattle.std.proofs.Common.{◌≡◌, ◌∙◌, sym, subst, List}
use Rattle.std.proofs.lemmas.List.{length-map}
use Rattle.html_blocks.proofs.Prelude.{document_by, ending_bytes, layout_after, OnOk, output_view, own_lines, page_view, piece_line, piece_lines, text_of}
use Rattle.text_pieces.proofs.Pieces.{no_piece}
use Rattle.definition_text.specs.BlockLines.{BlockLine}
use Rattle.html_looseness.specs.Printable.{AreHeadingLines}
use Rattle.html_rows.proofs.Lines.{one_line, several_lines}
use Rattle.html_blocks.proofs.printer.LeafPrinter.heading_text.Goals as goal

pub returns-then-lines-eq1-clause-printed : goal.returns-then-lines-eq1-clause-printed
returns-then-lines-eq1-clause-printed g c = λ ds has fits.
    let d = document_by g.T.Tables c.args.texts.now ds in
    let pieces = c.args.lines.now in
    let page = c.args.self.now.page in
    let one = one_line pieces no_piece c.if-lines-eq1.true in
    subst (λ (ls : List BlockLine). OnOk c.push_line.result (output_view c.push_line.new.out
    ≡ layout_after d.options.compile page.default_ending (page_view page) (text_of d (own_lines ls)))) (sym one)
    (c.push_line.ensures ds has (subst (λ (ls : List BlockLine). AreHeadingLines (own_lines ls)) one fits) (ending_bytes page.default_ending))

pub returns-else-lines-eq1-clause-printed : goal.returns-else-lines-eq1-clause-printed
returns-else-lines-eq1-clause-printed g c = λ ds has fits.
    let pieces = c.args.lines.now in
    c.push_text.ensures ds has
    (several_lines (piece_lines pieces) (λ e. c.if-lines-eq1.false (sym (length-map pieces piece_line) ∙ e)) fits)
    (ending_bytes c.args.self.now.page.default_ending)
