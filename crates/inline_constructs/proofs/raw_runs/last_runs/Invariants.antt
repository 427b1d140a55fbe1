use Rattle.std.proofs.Common.{◌≤◌, ◌-◌, length}
use Rattle.inline_constructs.proofs.RawRuns.{AreLastBefore}
use Rattle.inline_constructs.proofs.raw_runs.last_runs.Given as goal

-- the runs so far are kept
abbrev pub invariant-loop-at : goal.invariant-loop-at
invariant-loop-at g l = record {
  within : l.at ≤ length l.content;
  kept : AreLastBefore l.marker l.content l.runs.items l.at;
}

abbrev pub decreases-loop-at : goal.decreases-loop-at
decreases-loop-at g l = length l.content - l.at
