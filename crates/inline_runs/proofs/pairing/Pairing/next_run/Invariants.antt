use Rattle.std.proofs.Common.{◌≡◌}
use Rattle.inline_runs.proofs.Prelude.{IsSound, next_run, placed_view, state}
use Rattle.inline_runs.proofs.pairing.Pairing.next_run.Given as goal

-- what is left of the run does to what is there what the run does to what was there
abbrev pub invariant-loop-count : goal.invariant-loop-count
invariant-loop-count g l = record {
  same : next_run (state l.initial.self) (placed_view l.initial.closer) ≡ next_run (state l.self) (placed_view l.closer);
  sound : IsSound l.self l.now;
  place : l.closer.place ≡ l.now;
}

abbrev pub decreases-loop-count : goal.decreases-loop-count
decreases-loop-count g l = l.closer.run.size
