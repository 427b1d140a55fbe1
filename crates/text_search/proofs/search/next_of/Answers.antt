use Rattle.std.proofs.Common.{◌+◌, ◌-◌, length, sym, arith, inl, inr}
use Rattle.std.proofs.lemmas.Bool.{cases_lt}
use Rattle.std.proofs.lemmas.List.Sums.{position_or_len_is}
use Rattle.text_search.proofs.search.next_of.Goals as goal

pub returns-then-run-lt-LANES : goal.returns-then-run-lt-LANES
returns-then-run-lt-LANES g c =
    let run = c.run_in-run.ensures in
    sym (position_or_len_is (g.T.ByteTest.passes c.args.test) c.args.bytes.now (c.by_block.at + c.run_in-run.result) 0
    (omega (arith, run.within, c.by_block.invariant.0, c.by_block-test.true))
    (λ k below. elim (cases_lt k c.by_block.at) [ inl early ↦ c.by_block.invariant.1 k early | inr late ↦ run.passed k late below ])
    (λ inside. run.hit c.if-run-lt-LANES.true))

pub returns : goal.returns
returns g c =
    let run = c.run_in.ensures in
    let last = c.if-bytes-lt-LANES.false in
    sym (position_or_len_is (g.T.ByteTest.passes c.args.test) c.args.bytes.now (length c.args.bytes.now - 16 + c.run_in.result) 0
    (omega (arith, run.within, last))
    (λ k below. elim (cases_lt k c.by_block.at) [
      | inl early ↦ c.by_block.invariant.1 k early
      | inr late ↦ run.passed k
          (omega (arith, late, c.by_block-test.false)) below
    ])
    (λ inside. run.hit (omega (arith, inside, last))))
