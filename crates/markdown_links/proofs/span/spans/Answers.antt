use Rattle.std.proofs.Common.{◌-◌, arith}
use Rattle.markdown_links.proofs.Spans.{scan_more}
use Rattle.markdown_links.proofs.span.spans.Goals as goal

pub loop-end-preserved : goal.loop-end-preserved
loop-end-preserved g c =
    let within = c.loop-end.invariant.within in
    let more = c.loop-end-test.true in
    record {
      within = omega (arith, within, more);
      read =
          scan_more c.args.events.now c.loop-end.end (c.loop-end.end - 1) _ _ _ (omega (arith, more)) (omega (arith, within, more))
          c.loop-end.invariant.read c.in_ok-read.ensures;
    }
