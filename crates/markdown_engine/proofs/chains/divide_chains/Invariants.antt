use Rattle.std.proofs.Common.{drop}
use Rattle.markdown_engine.proofs.Prelude.{chains, chains_from, context, edits_of, found_in}
use Rattle.markdown_engine.proofs.ChainSteps.{Dividing}
use Rattle.markdown_engine.proofs.chains.divide_chains.Given as goal

abbrev pub invariant-loop-index : goal.invariant-loop-index
invariant-loop-index g l = Dividing (g.M.Machine.valid (context l.parse_state)) (g.M.Machine.step (context l.parse_state))
    (g.M.Machine.resolved (context l.parse_state)) l.parse_state.bytes.now (g.M.Machine.seen l.machine) l.events
    (chains_from l.filter l.index (drop l.index l.events)) l.counts (edits_of l.map) (found_in l.found) l.found.done (chains l.filter l.events)
    (edits_of l.fn.map)
