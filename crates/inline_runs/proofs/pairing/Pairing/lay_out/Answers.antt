use Rattle.std.proofs.Common.{◌+◌, ap, ◌∙◌}
use Rattle.inline_runs.proofs.Prelude.{run_sizes, runs_view}
use Rattle.inline_runs.proofs.Views.{size_at}
use Rattle.inline_runs.proofs.pairing.Pairing.lay_out.Goals as goal

pub loop-run-preserved : goal.loop-run-preserved
loop-run-preserved g c =
    let so_far = c.loop-run.invariant in
    let size = size_at c.args.runs.now c.loop-run.run-index _ _ so_far.count c.loop-run-test.true in
    record {
      pairs = so_far.pairs;
      laid = c.in_ok-add.ensures.laid so_far.laid;
      count = c.in_ok-add.ensures.count ∙ ap (λ n. n + 1) so_far.count;
      texts = c.in_ok-add.ensures.texts (run_sizes (runs_view c.args.runs.now)) size so_far.texts;
    }
