use Rattle.std.proofs.Common.{sym, ◌∙◌, arith}
use Rattle.inline_literals.proofs.Domains.{domain_goes_on, domain_ends}
use Rattle.inline_literals.proofs.gfm_autolink_literal.domain_size.Goals as goal

pub returns-then-not-begins_domain-clause-size : goal.returns-then-not-begins_domain-clause-size
returns-then-not-begins_domain-clause-size g c =
    let p = g.T.Tables.punctuation_of c.args.tables.now in
    let none = domain_ends p c.args.size c.loop-i.i c.args.text.now c.loop-i-test.true (omega (arith, c.loop-i-test.true, c.requires))
    (sym c.begins_domain.ensures ∙ c.if-not-begins_domain.true) in
    let same = c.loop-i.invariant in
    omega (arith, none, same)

pub loop-i-preserved : goal.loop-i-preserved
loop-i-preserved g c =
    let p = g.T.Tables.punctuation_of c.args.tables.now in
    let more = domain_goes_on p c.args.size c.loop-i.i c.args.text.now c.loop-i-test.true (omega (arith, c.loop-i-test.true, c.requires))
    (sym c.begins_domain.ensures ∙ c.if-not-begins_domain.false) in
    let same = c.loop-i.invariant in
    omega (arith, more, same)
