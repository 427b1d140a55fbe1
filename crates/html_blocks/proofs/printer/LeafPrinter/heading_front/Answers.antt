use Rattle.std.proofs.Common.{◌≡◌, ◌∷◌, List, ap, ◌∙◌, subst}
use Rattle.html_blocks.proofs.Prelude.{document_by, ending_bytes, layout_after, LineEnding, OnOk, output_view, own_lines, page_view, piece_lines, text_of}
use Rattle.definition_page.specs.HeadingText.{heading_text}
use Rattle.definition_page.specs.Read.{read_text}
use Rattle.definition_page.specs.Tags.{bare_tag}
use Rattle.html_bytes.specs.Document.{reading_of}
use Rattle.html_bytes.specs.Layout.{LayoutState}
use Rattle.html_bytes.specs.Pieces.{Piece, Named}
use Rattle.html_rows.proofs.ParagraphLaid.{heading_named, heading_plain}
use Rattle.html_blocks.proofs.HeadingLines.{heading_text_lines}
use Rattle.html_blocks.proofs.printer.LeafPrinter.heading_front.Goals as goal

pub returns-then-texts-clause-printed : goal.returns-then-texts-clause-printed
returns-then-texts-clause-printed g c = λ ds has fits.
    let d = document_by g.T.Tables c.args.texts.now ds in
    let page = c.args.self.now.page in
    let ls = own_lines (piece_lines c.args.lines.now) in
    let says = heading_text (read_text (reading_of d) ls) in
    subst (λ (ps : List Piece). OnOk c.push_heading.result
    (output_view c.push_heading.new.out ≡ layout_after d.options.compile page.default_ending (page_view page) ps))
    (ap (λ name. Named (bare_tag name) says ∷ text_of d ls) c.heading_name-name.ensures ∙ heading_named d c.args.rank ls c.if-texts.true)
    (c.push_heading.ensures ds has (heading_text_lines (piece_lines c.args.lines.now) fits) (ending_bytes page.default_ending))

pub returns-clause-printed : goal.returns-clause-printed
returns-clause-printed g c = λ ds has fits.
    let d = document_by g.T.Tables c.args.texts.now ds in
    let o = d.options.compile in
    let page = c.args.self.now.page in
    let ls = own_lines (piece_lines c.args.lines.now) in
    let tag = page_view c.heading_tag.new.self in
    subst (λ x. OnOk c.heading_text.result (page_view c.heading_text.new.self.page ≡ x))
    (ap (λ (e : LineEnding). layout_after o e tag (text_of d ls)) c.in_ok-heading_tag.ensures.default
    ∙ ap (λ (l : LayoutState). layout_after o page.default_ending l (text_of d ls)) c.in_ok-heading_tag.ensures.printed
    ∙ ap (layout_after o page.default_ending (page_view page)) (heading_plain d c.args.rank ls c.if-texts.false))
    (c.heading_text.ensures.printed ds has fits)
