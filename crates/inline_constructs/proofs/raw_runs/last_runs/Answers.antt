use Rattle.std.proofs.Common.{◌∙◌, sym, ap, drop, length-drop, arith}
use Rattle.inline_constructs.proofs.Prelude.{run}
use Rattle.inline_constructs.proofs.RawRuns.{past_byte, past_kept}
use Rattle.inline_constructs.proofs.RawTextLemmas.{run_here}
use Rattle.inline_constructs.proofs.raw_runs.last_runs.Goals as goal

pub loop-at-preserved-then-size-eq0 : goal.loop-at-preserved-then-size-eq0
loop-at-preserved-then-size-eq0 g c = record {
  within = omega arith;
  kept = past_byte c.args.marker c.args.content.now c.loop-at.runs.items c.loop-at.at
      (sym c.if-size-eq0.true ∙ c.run-size.ensures.size ∙ ap (run c.args.marker) c.from.ensures) c.loop-at.invariant.kept;
}

pub loop-at-preserved : goal.loop-at-preserved
loop-at-preserved g c =
    let xs = c.args.content.now in
    let at = c.loop-at.at in
    let r = c.run-size.result in
    let size = c.run-size.ensures.size ∙ ap (run c.args.marker) c.from.ensures in
    let here = run_here c.args.marker (drop at xs) r size in
    record {
      within = omega (arith, here.within, length-drop at xs);
      kept = past_kept c.args.marker xs c.loop-at.runs.items c.keep.new.runs.items at r (omega arith)
          (omega arith) size here c.in_ok-keep.ensures c.loop-at.invariant.kept;
    }
