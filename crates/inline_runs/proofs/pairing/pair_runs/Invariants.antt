use Rattle.std.proofs.Common.{◌≡◌, [], drop}
use Rattle.inline_runs.proofs.Prelude.{fold, IsSound, next_run, pairing, placed_from, runs_view, state}
use Rattle.inline_runs.proofs.pairing.pair_runs.Given as goal

-- the runs that are left do to what is there what all do at first
abbrev pub invariant-loop-place : goal.invariant-loop-place
invariant-loop-place g l = record {
  same :
      fold next_run (state l.pairing) (placed_from l.place (runs_view (drop l.place l.runs)))
      ≡ fold next_run (pairing [] []) (placed_from 0 (runs_view l.runs));
  sound : IsSound l.pairing l.place;
}
