use Rattle.markdown_engine.proofs.Prelude.{read_with, Turn, view_config, weight}
use Rattle.markdown_engine.proofs.tokenizer.Tokenizer.read.Given as goal

abbrev pub invariant-turns : goal.invariant-turns
invariant-turns g l = Turn g.M.Machine.seen (g.M.Machine.valid (read_with l.fn.self))
    (g.M.Machine.step (read_with l.fn.self)) l.to l.end l.fn.self l.state l.self l.next

abbrev pub decreases-turns : goal.decreases-turns
decreases-turns g l = weight l.next (g.M.Machine.rank (read_with l.fn.self) (view_config g.M.Machine.seen l.self) l.self.attempts.items l.next)
