use Rattle.inline_parser.proofs.gfm_autolink_literal.rows_with_literals.Goals as goal

pub returns-then-not-may_link : goal.returns-then-not-may_link
returns-then-not-may_link g c leads at kids same = c.may_link.ensures.none leads at kids c.if-not-may_link.true same

pub returns : goal.returns
returns g c leads at kids same = c.in_ok-linked.ensures leads at kids same
