use Rattle.std.proofs.Common.{◌≡◌, ◌≤◌, ◌-◌, length, drop, false}
use Rattle.inline_constructs.proofs.Prelude.{run_of}
use Rattle.inline_constructs.proofs.raw_runs.first_run.Given as goal

-- what is left has the answer
abbrev pub invariant-loop-at : goal.invariant-loop-at
invariant-loop-at l = record {
  within : l.at ≤ length l.bytes;
  same : run_of l.marker l.size false (drop l.at l.bytes) ≡ run_of l.marker l.size false l.bytes;
}

abbrev pub decreases-loop-at : goal.decreases-loop-at
decreases-loop-at l = length l.bytes - l.at
