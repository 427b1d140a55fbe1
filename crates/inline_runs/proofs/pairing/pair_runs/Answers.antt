use Rattle.std.proofs.Common.{◌≡◌, ◌+◌, ◌≤◌, List, drop, ap, sym, ◌∙◌, length, arith}
use Rattle.inline_runs.proofs.Prelude.{common_steps, fold, next_run, PairingOf, pairs, pairs_view, placed_from, Run, runs_view, state}
use Rattle.std.proofs.lemmas.List.{at_drop_more, at_drop_all}
use Rattle.inline_runs.proofs.FoundPairs.{found_are_pairs}
use Rattle.inline_runs.proofs.pairing.pair_runs.Goals as goal

pub loop-place-preserved : goal.loop-place-preserved
loop-place-preserved g c =
    let runs = c.args.runs.now in
    let place = c.loop-place.place in
    record {
      same =
          ap (λ s. fold next_run s (placed_from (place + 1) (runs_view (drop (place + 1) runs)))) c.in_ok-next_run.ensures.state
          ∙ sym
          (at_drop_more (λ (rs : List Run). fold next_run (state c.loop-place.pairing) (placed_from place (runs_view rs))) runs place _ c.loop-place-test.true)
          ∙ c.loop-place.invariant.same;
      sound = c.in_ok-next_run.ensures.sound;
    }

pub returns : goal.returns
returns g c =
    let runs = c.args.runs.now in
    let place = c.loop-place.place in
    let past : length runs ≤ place = omega (arith, c.loop-place-test.false) in
    let all = at_drop_all (λ (rs : List Run). fold next_run (state c.loop-place.pairing) (placed_from place (runs_view rs))) runs place past in
    let found : pairs_view c.loop-place.pairing.pairs.pairs.items ≡ pairs (runs_view runs) =
    ap (λ (s : PairingOf). s.pairs) (sym all ∙ c.loop-place.invariant.same) ∙ found_are_pairs (runs_view runs) in
    grind (arith, common_steps, found)
