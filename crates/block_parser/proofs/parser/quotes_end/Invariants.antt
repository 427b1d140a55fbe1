use Rattle.std.proofs.Common.{◌≤◌, length}
use Rattle.block_parser.proofs.Prelude.{container_views, NoQuoteFrom}
use Rattle.block_parser.proofs.parser.quotes_end.Given as goal

-- no quote stands behind
abbrev pub invariant-loop-depth : goal.invariant-loop-depth
invariant-loop-depth l = record {
  within : l.depth ≤ length l.containers;
  none : NoQuoteFrom l.depth (container_views l.containers);
}

abbrev pub decreases-loop-depth : goal.decreases-loop-depth
decreases-loop-depth l = l.depth
