use Rattle.std.proofs.Common.{true, refl, sym, subst}
use Rattle.inline_text.specs.Letters.{IsStop}
use Rattle.inline_text.proofs.LetterRuns.{few_early, few_late, few_end}
use Rattle.inline_text.proofs.letters.next_in_few.Goals as goal

pub returns-then-run-lt-END_SIZE : goal.returns-then-run-lt-END_SIZE
returns-then-run-lt-END_SIZE c =
    few_early c.args.stops c.args.bytes.now c.ends.result c.ends-2.result c.lanes_before-run.result c.if-bytes-le-END_SIZE.false c.requires
    c.ends.ensures c.ends-2.ensures c.lanes_before-run.ensures c.if-run-lt-END_SIZE.true

pub returns-then-run-lt-LANES : goal.returns-then-run-lt-LANES
returns-then-run-lt-LANES c =
    few_late c.args.stops c.args.bytes.now c.ends.result c.ends-2.result c.lanes_before-run.result c.if-bytes-le-END_SIZE.false c.requires
    c.ends.ensures c.ends-2.ensures c.lanes_before-run.ensures c.if-run-lt-END_SIZE.false c.if-run-lt-LANES.true _ refl

pub returns : goal.returns
returns c =
    subst (IsStop true c.args.stops c.args.bytes.now) (sym c.end_before.ensures)
    (few_end c.args.stops c.args.bytes.now c.ends.result c.ends-2.result c.lanes_before-run.result c.if-bytes-le-END_SIZE.false c.requires
    c.ends.ensures c.ends-2.ensures c.lanes_before-run.ensures c.if-run-lt-LANES.false)
