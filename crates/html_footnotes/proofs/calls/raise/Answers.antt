use Rattle.std.proofs.Common.{arith}
use Rattle.html_footnotes.proofs.Rows.{row_raised}
use Rattle.html_footnotes.proofs.calls.raise.Goals as goal

pub returns-clause-raised : goal.returns-clause-raised
returns-clause-raised g c =
    λ d. row_raised c.args.called.now.items c.args.at c.index_mut.result.now c.index.result.now c.in_ok-count.count d
    (omega arith) c.index_mut.ensures.value c.index.ensures c.in_ok-count.ensures
