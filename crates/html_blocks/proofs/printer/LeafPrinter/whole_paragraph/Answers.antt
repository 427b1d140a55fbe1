use Rattle.std.proofs.Common.{◌≡◌, Bool, sym, subst}
use Rattle.html_blocks.proofs.Prelude.{document_by, ending_bytes, layout_after, leaf_bytes, loose_laid, OnOk, output_view, own_lines, page_view, Paragraph}
use Rattle.html_blocks.proofs.Prelude.{standing_first, whole_lines}
use Rattle.html_blocks.proofs.printer.LeafPrinter.whole_paragraph.Goals as goal

pub returns-then-tight-clause-printed : goal.returns-then-tight-clause-printed
returns-then-tight-clause-printed g c = λ ds has.
    let d = document_by g.T.Tables c.args.texts.now ds in
    let page = c.args.self.now.page in
    let ls = own_lines (whole_lines c.args.text.now) in
    subst (λ (tight : Bool). OnOk c.push_whole.result (output_view c.push_whole.new.out
    ≡ layout_after d.options.compile page.default_ending (page_view page) (leaf_bytes d (standing_first c.args.first) tight (Paragraph ls))))
    (sym c.if-tight.true) (c.push_whole.ensures ds has (ending_bytes page.default_ending))

pub returns-clause-printed : goal.returns-clause-printed
returns-clause-printed g c = λ ds has.
    let d = document_by g.T.Tables c.args.texts.now ds in
    let page = c.args.self.now.page in
    subst (λ x. OnOk c.say.result (page_view c.say.new.self ≡ x))
    (loose_laid d page.default_ending c.args.tight c.args.first (own_lines (whole_lines c.args.text.now)) (page_view page)
    (page_view c.fresh_tag.new.self) (output_view c.push_whole-2.new.out) c.if-tight.false c.in_ok-fresh_tag.ensures.printed
    (c.in_ok-push_whole.ensures ds has (ending_bytes page.default_ending)))
    c.say.ensures.printed
