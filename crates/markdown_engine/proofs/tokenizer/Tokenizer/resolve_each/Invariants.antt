use Rattle.std.proofs.Common.{drop}
use Rattle.markdown_engine.proofs.Prelude.{read_with}
use Rattle.markdown_engine.proofs.Resolves.{ResolvingOn}
use Rattle.markdown_engine.proofs.tokenizer.Tokenizer.resolve_each.Given as goal

abbrev pub invariant-loop-name : goal.invariant-loop-name
invariant-loop-name g l = ResolvingOn g.M.Machine.seen (g.M.Machine.resolved (read_with l.fn.self)) (g.M.Machine.settled (read_with l.fn.self))
    (drop l.name-index l.names) l.self l.found l.names l.fn.self l.fn.found
