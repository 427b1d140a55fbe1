use Rattle.std.proofs.Common.{◌∙◌, sym, arith}
use Rattle.compile_strings.proofs.PassLaw.{not_some, raws_other}
use Rattle.compile_strings.proofs.spelled.next_raw.Goals as goal

pub loop-index-preserved : goal.loop-index-preserved
loop-index-preserved c =
    let events = c.args.events.now in
    let k = c.loop-index.invariant in
    record {
      raws =
          λ bytes.
          sym (raws_other events bytes c.loop-index.index c.loop-index-test.true
          (sym c.sequence_of.ensures ∙ not_some c.sequence_of.result (sym c.is_some.ensures ∙ c.if-is_some.false)))
          ∙ k.raws bytes;
      order = omega (arith, k.order);
      within = omega (arith, c.loop-index-test.true);
    }
