use Rattle.std.proofs.Common.{◌≡◌, ◌∙◌, ◌<◌, ◌+◌, ◌-◌, ℕ, sym, ap, drop, length, arith}
use Rattle.compile_written.proofs.Prelude.{pass_start, passed}
use Rattle.compile_written.proofs.OpenLevels.{other_enter, other_exit, no_child}
use Rattle.compile_written.proofs.list.pass_others.Goals as goal
use Rattle.compile_written.proofs.list.pass_others.Goals.{in-Exit+else-is_some, in-Enter+else-inside-least+else-is_list}

pub loop-first-preserved : goal.loop-first-preserved
loop-first-preserved c =
    let events = c.args.events.now in
    let k = c.loop-first.invariant in
    let i = c.loop-first.first - 1 in
    let d = c.loop-first.inside in
    let back : i + 1 ≡ c.loop-first.first = omega (arith, c.loop-first-test.true) in
    let within : i < length events = omega (arith, c.loop-first-test.true, k.order, c.requires.within) in
    elim c.match-event.branch [
      | in-Exit+else-is_some w ↦ rw (w.inside-is)
          (record {
            passed =
                λ bytes level ls lists plain start.
                other_exit bytes level ls lists events i d within
                (k.passed bytes level ls lists plain start ∙ ap (λ (z : ℕ). passed bytes pass_start (drop z events)) (sym back))
                w.in-Exit.is (λ none. plain (omega (arith, none, k.least)))
                (sym w.compared_in.ensures ∙ no_child w.compared_in.result (sym w.is_some.ensures ∙ w.if-is_some.false));
            order = omega (arith, k.order);
            least = omega (arith, k.least);
            fits = omega (arith, k.fits, c.loop-first-test.true);
          })
      | in-Enter+else-inside-least+else-is_list w ↦ rw (w.inside-is)
          (record {
            passed =
                λ bytes level ls lists plain start.
                other_enter bytes level ls lists events i d within
                (k.passed bytes level ls lists plain start ∙ ap (λ (z : ℕ). passed bytes pass_start (drop z events)) (sym back))
                w.in-Enter.is (omega (arith, w.if-inside-least.false)) (λ none. plain (omega (arith, none, w.if-inside-least.false)))
                (sym w.is_list.ensures ∙ w.if-is_list.false);
            order = omega (arith, k.order);
            least = omega (arith, w.if-inside-least.false);
            fits = omega (arith, k.fits, c.loop-first-test.true);
          })
    ]

pub returns-clause-passed : goal.returns-clause-passed
returns-clause-passed c = λ bytes level ls lists plain start.
    let none : c.loop-first.first ≡ 0 = omega (arith, c.loop-first-test.false) in
    c.loop-first.invariant.passed bytes level ls lists plain start ∙ ap (λ (z : ℕ). passed bytes pass_start (drop z c.args.events.now)) none
