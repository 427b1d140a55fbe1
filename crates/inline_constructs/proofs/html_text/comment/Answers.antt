use Rattle.std.proofs.Common.{◌∙◌, sym, ap}
use Rattle.inline_constructs.proofs.Prelude.{begins_with, codes}
use Rattle.inline_constructs.proofs.HtmlTextLemmas.{short_comment, dash_comment}
use Rattle.inline_constructs.proofs.html_text.comment.Goals as goal

pub returns-then-starts_with-clause-read : goal.returns-then-starts_with-clause-read
returns-then-starts_with-clause-read c =
    short_comment c.args.bytes.now (sym c.starts_with.ensures.value ∙ c.if-not-starts_with.false)
    (ap (begins_with (codes ">")) (sym c.from-rest.ensures) ∙ sym c.starts_with-2.ensures.value ∙ c.if-starts_with.true)

pub returns-then-starts_with-2-clause-read : goal.returns-then-starts_with-2-clause-read
returns-then-starts_with-2-clause-read c =
    dash_comment c.args.bytes.now (sym c.starts_with.ensures.value ∙ c.if-not-starts_with.false)
    (ap (begins_with (codes ">")) (sym c.from-rest.ensures) ∙ sym c.starts_with-2.ensures.value ∙ c.if-starts_with.false)
    (ap (begins_with (codes "->")) (sym c.from-rest.ensures) ∙ sym c.starts_with-3.ensures.value ∙ c.if-starts_with-2.true)
