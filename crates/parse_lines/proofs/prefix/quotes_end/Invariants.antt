use Rattle.std.proofs.Common.{◌≤◌, length}
use Rattle.parse_lines.proofs.Prelude.{AreQuotesWithin, container_views}
use Rattle.parse_lines.proofs.prefix.quotes_end.Given as goal

abbrev pub invariant-loop-depth : goal.invariant-loop-depth
invariant-loop-depth l =
    (l.depth ≤ length l.containers) × (AreQuotesWithin l.fn.count (container_views l.containers) → AreQuotesWithin l.depth (container_views l.containers))
