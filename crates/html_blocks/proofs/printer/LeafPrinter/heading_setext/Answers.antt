use Rattle.std.proofs.Common.{◌≡◌, ap, ◌∙◌, subst}
use Rattle.html_blocks.proofs.Prelude.{document_by, heading_laid, layout_after, LineEnding, OnOk, own_lines, page_view, piece_lines}
use Rattle.html_rows.specs.Headings.{heading_bytes}
use Rattle.html_blocks.proofs.printer.LeafPrinter.heading_setext.Goals as goal

pub returns-clause-printed : goal.returns-clause-printed
returns-clause-printed g c = λ ds has fits.
    let d = document_by g.T.Tables c.args.texts.now ds in
    let page = c.args.self.now.page in
    let ls = own_lines (piece_lines c.args.lines.now) in
    let line = page_view c.fresh.new.self in
    subst (λ x. OnOk c.heading_tag.result (page_view c.heading_tag.new.self ≡ x))
    (heading_laid d page.default_ending c.args.rank ls (page_view page) line (page_view c.heading_front.new.self.page) c.in_ok-fresh.ensures.printed
    (c.in_ok-heading_front.ensures.printed ds has fits
    ∙ ap (λ (e : LineEnding). layout_after d.options.compile e line (heading_bytes d c.args.rank ls)) c.in_ok-fresh.ensures.default))
    c.heading_tag.ensures.printed
