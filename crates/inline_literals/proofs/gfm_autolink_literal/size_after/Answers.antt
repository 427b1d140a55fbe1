use Rattle.std.proofs.Common.{reverse, take, sym, ap, ◌∙◌, arith, subst}
use Rattle.std.proofs.lemmas.Bool.{and_parts, eqb-true}
use Rattle.definition_inline.specs.GfmAutolinkLiteral.{count_of, has_low_line}
use Rattle.inline_literals.specs.Literals.{HasLowLineAt}
use Rattle.inline_literals.proofs.InVain.{none_begins, none_here, none_later, none_named}
use Rattle.inline_literals.proofs.gfm_autolink_literal.size_after.Goals as goal

pub returns-then-not-begins_name-clause-vain : goal.returns-then-not-begins_name-clause-vain
returns-then-not-begins_name-clause-vain g c =
    let p = g.T.Tables.punctuation_of c.args.tables.now in
    none_here p c.args.after.now (none_begins p c.args.after.now (sym c.begins_name.ensures ∙ c.if-not-begins_name.true))

pub returns-in-Some-clause-vain : goal.returns-in-Some-clause-vain
returns-in-Some-clause-vain g c =
    let p = g.T.Tables.punctuation_of c.args.tables.now in
    let at = c.in-Some.at in
    let value = c.as_bytes-bytes.ensures.value in
    let domain = c.domain_in_name-domain.result in
    let none = and_parts _ _ (sym c.has_no_parenthesis.ensures ∙ c.if-has_no_parenthesis.true) in
    none_later p c.args.after.now domain at c.domain_in_name-domain.ensures.size (subst (λ l. HasLowLineAt (take domain l) at) value c.in-Some.ensures)
    (ap (λ l. count_of 40 (reverse (take at l))) (sym value) ∙ eqb-true _ 0 none.0)
    (ap (λ l. count_of 41 (reverse (take at l))) (sym value) ∙ eqb-true _ 0 none.1)

pub returns-in-Some-2-clause-vain : goal.returns-in-Some-2-clause-vain
returns-in-Some-2-clause-vain g c =
    let p = g.T.Tables.punctuation_of c.args.tables.now in
    let after = c.args.after.now in
    let domain = c.domain_in_name-domain.result in
    let low = subst (λ l. HasLowLineAt (take domain l) c.in-Some-2.field-0) c.as_bytes-bytes.ensures.value c.in-Some-2.ensures in
    none_here p after (none_named p after (ap (λ n. has_low_line (take n after)) (sym c.domain_in_name-domain.ensures.size) ∙ low.refused 0 (omega arith)))
