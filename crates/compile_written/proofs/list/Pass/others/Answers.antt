use Rattle.compile_written.proofs.Prelude.{around, reverse}
use Rattle.compile_written.proofs.list.Pass.others.Goals as goal

pub returns-clause-passed : goal.returns-clause-passed
returns-clause-passed g c = λ bytes start.
    let p = c.args.self.now in
    c.pass_others-depth.ensures.passed bytes p.inner.level (around (reverse p.outer.items)) (reverse p.lists.items) c.least_depth.ensures start
