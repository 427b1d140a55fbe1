use Rattle.std.proofs.Common.{◌≡◌, ◌∙◌, ◌<◌, sym, subst, true, length, arith}
use Rattle.markdown_engine.proofs.Prelude.{is_before, reaches_on, remaining, VirtualByte}
use Rattle.markdown_engine.specs.VirtualText.{there, over}
use Rattle.markdown_engine.proofs.Falls.{step_less, step_reaches}
use Rattle.markdown_engine.proofs.virtual_text.place_over.Invariants.{Walking}
use Rattle.markdown_engine.proofs.virtual_text.place_over.Goals as goal

pub loop-to-preserved : goal.loop-to-preserved
loop-to-preserved c =
    let e : is_before c.args.to c.loop-to.place ≡ true = sym c.is_before.ensures ∙ c.loop-to-test.true in
    let less = step_less c.args.bytes.now c.args.to c.loop-to.place c.requires.to.within c.requires.to.column e in
    let far = c.loop-to.invariant.forward in
    subst (λ (v : VirtualByte). Walking c.args.bytes.now c.args.to c.args.point v.next) (sym c.virtual_byte.ensures)
    (record {
      rest = λ q w. c.loop-to.invariant.rest q (over e w);
      forward = omega (arith, less, far);
      order = reaches_on _ _ _ c.loop-to.invariant.order (step_reaches c.loop-to.place c.args.bytes.now);
    })

pub loop-to-smaller : goal.loop-to-smaller
loop-to-smaller c =
    let e : is_before c.args.to c.loop-to.place ≡ true = sym c.is_before.ensures ∙ c.loop-to-test.true in
    subst (λ (v : VirtualByte). remaining (length c.args.bytes.now) v.next < remaining (length c.args.bytes.now) c.loop-to.place) (sym c.virtual_byte.ensures)
    (step_less c.args.bytes.now c.args.to c.loop-to.place c.requires.to.within c.requires.to.column e)

pub returns-clause-walks : goal.returns-clause-walks
returns-clause-walks c = c.loop-to.invariant.rest c.loop-to.place (there (sym c.is_before.ensures ∙ c.loop-to-test.false))
