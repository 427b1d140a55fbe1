use Rattle.std.proofs.Common.{◌≡◌, ◌+◌, drop, sym, ap, ◌∙◌, get_or}
use Rattle.std.specs.Prelude.{codes}
use Rattle.definition_text.specs.InlineCode.{is_continuation}
use Rattle.definition_inline.specs.GfmAutolinkLiteral.{is_among}
use Rattle.std.proofs.lemmas.List.{drop_more}
use Rattle.inline_literals.specs.Literals.{begins_other}
use Rattle.inline_literals.proofs.Domains.{domain_byte, not_among}
use Rattle.inline_literals.proofs.gfm_autolink_literal.begins_domain.Goals as goal

pub returns : goal.returns
returns g c =
    let p = g.T.Tables.punctuation_of c.args.tables.now in
    let xs = c.args.text.now in
    let at = c.args.at in
    let read = get_or c.as_bytes.result.now at 0 in
    let byte : read ≡ get_or xs at 0 = ap (λ s. get_or s at 0) c.as_bytes.ensures.value in
    c.begins_other.ensures ∙ ap (begins_other p) (c.range_from.ensures.value ∙ drop_more xs at 0 c.requires)
    ∙ domain_byte p (get_or xs at 0) (drop (at + 1) xs) (ap is_continuation (sym byte) ∙ sym c.is_continuation.ensures ∙ c.if-is_continuation.false)
    (ap (is_among (codes "-._")) (sym byte) ∙ not_among read (sym c.contains.ensures.value ∙ c.if-contains.false))
