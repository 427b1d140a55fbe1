use Rattle.std.proofs.Common.{◌≡◌, subst}
use Rattle.html_blocks.proofs.Prelude.{document_by, OnOk, page_view}
use Rattle.html_rows.proofs.CodeFencedLemmas.{tags_laid}
use Rattle.html_blocks.proofs.printer.LeafPrinter.start_code.Goals as goal

pub returns-clause-printed : goal.returns-clause-printed
returns-clause-printed g c = λ ds clear.
    let page = c.args.self.now.page in
    subst (λ x. OnOk c.say.result (page_view c.say.new.self ≡ x))
    (tags_laid (document_by g.T.Tables c.args.texts.now ds) page.default_ending c.args.info.now (page_view page) (page_view c.fresh_tag.new.self)
    (page_view c.class.new.self.page) c.in_ok-fresh_tag.ensures.printed (c.in_ok-class.ensures.printed ds clear))
    c.say.ensures.printed
