use Rattle.std.proofs.Common.{◌≡◌, ◌+◌, drop, nat_lt}
use Rattle.inline_constructs.proofs.Prelude.{LastRun, prefix_len}
use Rattle.inline_constructs.proofs.raw_runs.smaller.Given as goal

-- the runs so far are smaller
abbrev pub invariant-loop-i : goal.invariant-loop-i
invariant-loop-i l = prefix_len (λ (run : LastRun). nat_lt run.size l.size) l.runs
    ≡ l.i + prefix_len (λ (run : LastRun). nat_lt run.size l.size) (drop l.i l.runs)
