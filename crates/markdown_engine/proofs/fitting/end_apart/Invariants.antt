use Rattle.std.proofs.Common.{◌≤◌, ◌++◌, ◌↔◌, ℕ, List, drop}
use Rattle.markdown_engine.proofs.Prelude.{AreApart}
use Rattle.markdown_engine.proofs.fitting.end_apart.Given as goal

abbrev pub invariant-loop-chunk : goal.invariant-loop-chunk
invariant-loop-chunk l = (l.end ≤ l.count)
    × ((more : List ℕ) → AreApart l.from (l.chain ++ more) l.count ↔ AreApart l.end (drop l.chunk-index l.chain ++ more) l.count)
