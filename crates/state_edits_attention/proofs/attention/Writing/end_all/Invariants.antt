use Rattle.std.proofs.Common.{◌≡◌, drop}
use Rattle.std.specs.List.{fold}
use Rattle.inline_runs.specs.View.{pairs_view}
use Rattle.state_edits_attention.specs.Attention.{with_end_of}
use Rattle.state_edits_attention.specs.Views.{run_events_view}
use Rattle.state_edits_attention.proofs.attention.Writing.end_all.Given as goal

-- the pairs that are left do to what was written what all do to the first
abbrev pub invariant-loop-index : goal.invariant-loop-index
invariant-loop-index g l = fold (with_end_of l.marker) (run_events_view l.self) (pairs_view (drop l.index l.closed))
    ≡ fold (with_end_of l.marker) (run_events_view l.fn.self) (pairs_view l.closed)
