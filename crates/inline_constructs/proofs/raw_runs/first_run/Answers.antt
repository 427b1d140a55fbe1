use Rattle.std.proofs.Common.{◌≡◌, ◌+◌, arith, eqb, drop, ap, sym, ◌∙◌, length-drop}
use Rattle.inline_constructs.proofs.Prelude.{cond-false, cond-true, eq-eqb, ne_eqb, run}
use Rattle.inline_constructs.proofs.RawTextLemmas.{past_here, found_here, run_here, run_there}
use Rattle.inline_constructs.proofs.raw_runs.first_run.Goals as goal
use Rattle.inline_constructs.proofs.raw_runs.first_run.Goals.{then-run-eq0, else-run-eq0}

pub loop-at-preserved : goal.loop-at-preserved
loop-at-preserved c =
    let xs = c.args.bytes.now in
    let n = c.args.size in
    let at = c.loop-at.at in
    let r = c.run-run.result in
    let size : r ≡ run c.args.marker (drop at xs) = c.run-run.ensures.size ∙ ap (run c.args.marker) c.from.ensures in
    let there = run_here c.args.marker (drop at xs) r size in
    elim c.if-run-eq0.branch [
      | then-run-eq0 w ↦
          record {
            within = omega (arith, w.at-is);
            same = sym (past_here c.args.marker xs n at r _ c.requires size c.if-run-size.false
                (ap (λ k. at + k) (w.at-is ∙ sym (cond-true (eqb r 0) 1 r (eq-eqb r 0 w.if-run-eq0.true))))) ∙ c.loop-at.invariant.same;
          }
      | else-run-eq0 w ↦ record {
        within = omega (arith, w.at-is, there.within, length-drop at xs);
        same = sym (past_here c.args.marker xs n at r _ c.requires size c.if-run-size.false
            (ap (λ k. at + k) (w.at-is ∙ sym (cond-false (eqb r 0) 1 r (ne_eqb r 0 w.if-run-eq0.false))))) ∙ c.loop-at.invariant.same;
      }
    ]

pub returns-then-run-size-clause-read : goal.returns-then-run-size-clause-read
returns-then-run-size-clause-read c =
    let m = c.args.marker in
    let xs = c.args.bytes.now in
    let at = c.loop-at.at in
    let size : c.run-run.result ≡ run m (drop at xs) = c.run-run.ensures.size ∙ ap (run m) c.from.ensures in
    sym (found_here m xs c.args.size at c.run-run.result c.requires size c.if-run-size.true) ∙ c.loop-at.invariant.same

pub returns-then-run-size-clause-run : goal.returns-then-run-size-clause-run
returns-then-run-size-clause-run c =
    let m = c.args.marker in
    let xs = c.args.bytes.now in
    let at = c.loop-at.at in
    let size : c.run-run.result ≡ run m (drop at xs) = c.run-run.ensures.size ∙ ap (run m) c.from.ensures in
    run_there m xs at c.args.size c.loop-at.invariant.within (run_here m (drop at xs) c.args.size (sym c.if-run-size.true ∙ size))
