use Rattle.std.proofs.Common.{drop}
use Rattle.markdown_engine.proofs.Prelude.{read_with}
use Rattle.markdown_engine.proofs.Push.{Ranging}
use Rattle.markdown_engine.proofs.tokenizer.Tokenizer.read_in_ranges.Given as goal

abbrev pub invariant-loop-cut : goal.invariant-loop-cut
invariant-loop-cut g l = Ranging g.M.Machine.seen (g.M.Machine.valid (read_with l.fn.self))
    (g.M.Machine.step (read_with l.fn.self)) l.fn.self l.state l.self l.next (drop l.cut-index l.cuts)
