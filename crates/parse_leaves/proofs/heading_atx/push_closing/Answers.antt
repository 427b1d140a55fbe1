use Rattle.std.proofs.Common.{◌≤◌, ◌∙◌, ap, length, subst}
use Rattle.parse_leaves.proofs.Prelude.{number_sign, run}
use Rattle.parse_leaves.proofs.AtxParts.{closing_written}
use Rattle.parse_leaves.proofs.TextLeaves.{three_ok}
use Rattle.parse_leaves.proofs.heading_atx.push_closing.Goals as goal

pub returns-clause-written : goal.returns-clause-written
returns-clause-written g c =
    let white = c.in_ok-closing.ensures in
    let token = c.in_ok-token.ensures in
    three_ok c.all.result
    (λ stays end written. λ text ending left ends on.
    closing_written text ending left c.args.walk.now c.push_white.new.walk c.token.new.self c.all.new.self c.args.bytes.now c.run.result
    (subst (λ bs. c.run.result ≤ length bs) white.rest c.run.ensures.within) (c.run.ensures.size ∙ ap (run number_sign) white.rest) ends (white.written text ending left on)
    (token.stays, token.end, token.written) (stays, end, written))
    c.all.ensures.stays c.all.ensures.end c.all.ensures.written
