use Rattle.std.proofs.Common.{◌≡◌, ◌∙◌, subst}
use Rattle.html_blocks.proofs.Prelude.{closed_laid, document_by, OnOk, page_view, piece_lines}
use Rattle.html_rows.proofs.CodeFencedLemmas.{open_laid}
use Rattle.html_blocks.proofs.printer.LeafPrinter.fenced_code.Goals as goal

pub returns-then-closed-clause-printed : goal.returns-then-closed-clause-printed
returns-then-closed-clause-printed g c = λ ds clear.
    let d = document_by g.T.Tables c.args.texts.now ds in
    let page = c.args.self.now.page in
    c.in_ok-say.ensures.printed
    ∙ closed_laid d page.default_ending c.start_code.new.self.page.default_ending c.args.info.now c.args.top c.args.closed (piece_lines c.args.lines.now)
    (page_view page) (page_view c.start_code.new.self.page) (page_view c.fenced_content.new.self) c.if-closed.true c.in_ok-start_code.ensures.default
    (c.in_ok-start_code.ensures.printed ds clear) (c.in_ok-fenced_content.ensures.printed d.options.compile)

pub returns-clause-printed : goal.returns-clause-printed
returns-clause-printed g c = λ ds clear.
    let d = document_by g.T.Tables c.args.texts.now ds in
    let page = c.args.self.now.page in
    let inner = c.in_ok-start_code.ensures.default in
    let after = c.in_ok-say.ensures.default ∙ c.in_ok-fenced_content.ensures.default ∙ inner in
    subst (λ x. OnOk c.fresh.result (page_view c.fresh.new.self ≡ x))
    (open_laid d page.default_ending c.start_code.new.self.page.default_ending c.say.new.self.default_ending c.args.info.now c.args.top c.args.closed
    (piece_lines c.args.lines.now) (page_view page) (page_view c.start_code.new.self.page) (page_view c.fenced_content.new.self) (page_view c.say.new.self)
    c.if-closed.false inner after (c.in_ok-start_code.ensures.printed ds clear) (c.in_ok-fenced_content.ensures.printed d.options.compile)
    c.in_ok-say.ensures.printed)
    c.fresh.ensures.printed
