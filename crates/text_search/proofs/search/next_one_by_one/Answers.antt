use Rattle.std.proofs.Common.{sym, arith}
use Rattle.std.proofs.lemmas.List.Sums.{position_or_len_is}
use Rattle.text_search.proofs.search.next_one_by_one.Goals as goal

pub returns-else-not-passes : goal.returns-else-not-passes
returns-else-not-passes g c =
    sym (position_or_len_is (g.T.ByteTest.passes c.args.test) c.args.bytes.now c.loop-at.at 0 c.loop-at.invariant.0 c.loop-at.invariant.1
    (λ inside. sym c.if-not-passes.ensures))

pub returns-after-loop-at : goal.returns-after-loop-at
returns-after-loop-at g c =
    sym (position_or_len_is (g.T.ByteTest.passes c.args.test) c.args.bytes.now c.loop-at.at 0 c.loop-at.invariant.0 c.loop-at.invariant.1
    (λ inside. absurd (omega (arith, c.loop-at-test.false, inside))))
