use Rattle.std.proofs.Common.{◌-◌, true, length, sym, subst, arith, inl, inr}
use Rattle.std.proofs.lemmas.Bool.{cases_lt}
use Rattle.inline_text.specs.Letters.{IsStop}
use Rattle.inline_text.proofs.LetterRuns.{at_end, free_to, stop_after}
use Rattle.inline_text.proofs.letters.next_of_or_letters.Goals as goal

pub returns-then-run-lt-LANES : goal.returns-then-run-lt-LANES
returns-then-run-lt-LANES c =
    stop_after c.args.stops c.args.bytes.now c.by_block.at c.run_in-run.result (omega (arith, c.by_block-test.true)) c.by_block.invariant.1
    c.run_in-run.ensures c.if-run-lt-LANES.true

pub by_block-preserved : goal.by_block-preserved
by_block-preserved c = (
  omega (arith, c.by_block-test.true),
  λ k lt. elim (cases_lt k c.by_block.at) [
    | inl before ↦ c.by_block.invariant.1 k before
    | inr after ↦ free_to c.args.stops c.args.bytes.now c.by_block.at c.run_in-run.result k c.run_in-run.ensures after
        (omega (arith, lt, c.if-run-lt-LANES.false))
  ],
)

pub returns-then-run-lt-LANES-2 : goal.returns-then-run-lt-LANES-2
returns-then-run-lt-LANES-2 c =
    let bytes = c.args.bytes.now in
    stop_after c.args.stops bytes (length bytes - 1 - 16) c.run_in-run-2.result (omega arith)
    (λ k lt. c.by_block.invariant.1 k (omega (arith, lt, c.by_block-test.false))) c.run_in-run-2.ensures c.if-run-lt-LANES-2.true

pub returns : goal.returns
returns c =
    subst (IsStop true c.args.stops c.args.bytes.now) (sym c.end_before.ensures)
    (at_end c.args.stops c.args.bytes.now (λ k lt. elim (cases_lt k c.by_block.at) [
      | inl before ↦ c.by_block.invariant.1 k before
      | inr after ↦
          let bytes = c.args.bytes.now in
          free_to c.args.stops bytes (length bytes - 1 - 16) c.run_in-run-2.result k c.run_in-run-2.ensures (omega (arith, after, c.by_block-test.false))
          (omega (arith, lt, c.if-run-lt-LANES-2.false))
    ]))
