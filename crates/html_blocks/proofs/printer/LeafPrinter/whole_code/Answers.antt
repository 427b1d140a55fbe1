use Rattle.std.proofs.Common.{◌≡◌, true, refl, subst}
use Rattle.html_blocks.proofs.Prelude.{closed_laid, document_by, OnOk, page_view, whole_lines}
use Rattle.html_blocks.proofs.printer.LeafPrinter.whole_code.Goals as goal

pub returns-clause-printed : goal.returns-clause-printed
returns-clause-printed g c = λ ds top clear.
    let d = document_by g.T.Tables c.args.texts.now ds in
    let page = c.args.self.now.page in
    subst (λ x. OnOk c.say.result (page_view c.say.new.self ≡ x))
    (closed_laid d page.default_ending c.start_code.new.self.page.default_ending c.args.info.now top true (whole_lines c.args.text.now) (page_view page)
    (page_view c.start_code.new.self.page) (page_view c.whole_content.new.self) refl c.in_ok-start_code.ensures.default
    (c.in_ok-start_code.ensures.printed ds clear) (c.in_ok-whole_content.ensures.printed d.options.compile top))
    c.say.ensures.printed
