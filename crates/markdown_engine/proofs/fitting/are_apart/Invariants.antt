use Rattle.std.proofs.Common.{◌≤◌, ◌↔◌, drop, length}
use Rattle.markdown_engine.proofs.Prelude.{AreApart, chains, chains_from, chunks_of}
use Rattle.markdown_engine.proofs.fitting.are_apart.Given as goal

abbrev pub invariant-loop-index : goal.invariant-loop-index
invariant-loop-index g l = (l.from ≤ length l.events)
    × (AreApart 0 (chunks_of l.events (chains l.wanted l.events)) (length l.events) ↔ AreApart l.from
    (chunks_of l.events (chains_from l.wanted l.index (drop l.index l.events))) (length l.events))
