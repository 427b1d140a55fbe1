use Rattle.std.proofs.Common.{inl, inr}
use Rattle.markdown_engine.proofs.Prelude.{found_in, IfOk-weaker, read_with}
use Rattle.markdown_engine.proofs.Computing.{flushed_reading, if_err}
use Rattle.markdown_engine.proofs.tokenizer.Tokenizer.flush.Goals as goal

pub returns-clause-evaluated : goal.returns-clause-evaluated
returns-clause-evaluated g c =
    let old = c.args.self.now in
    elim c.requires.valid [
      | inl f ↦ if_err c.flush_to.result _ (c.flush_to.ensures.failed f)
      | inr v ↦ IfOk-weaker c.flush_to.result _ _
          (λ found h. flushed_reading g.M.Machine.seen g.M.Machine.step g.M.Machine.rank g.M.Machine.resolved g.M.Machine.valid old.end c.args.resolve
          c.args.state old c.flush_to.new.self (found_in found)
          (g.met.M.Machine.lawful (read_with old)) c.requires.end v h) c.flush_to.ensures.completed
    ]
