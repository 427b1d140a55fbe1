use Rattle.std.proofs.Common.{◌≡◌, ◌∙◌, ◌<◌, ◌-◌, ◌+◌, ℕ, ap, sym, arith, drop, get_or, length}
use Rattle.compile_written.proofs.Prelude.{around, drop_next, length-drop, no_event, pass_event, pass_start, passed, PassView, reverse}
use Rattle.compile_written.proofs.ListLaw.{lists_law}
use Rattle.compile_written.proofs.OpenLevels.{depth_fits}
use Rattle.compile_written.proofs.list.loose_lists.Goals as goal

pub event-requires : goal.event-requires
event-requires g c =
    let p = c.loop-end.pass in
    let events = c.args.events.now in
    let i = c.loop-end.end in
    let k = c.loop-end.invariant in
    let h = depth_fits c.args.bytes.now p.inner (around (reverse p.outer.items)) (reverse p.lists.items) (drop i events) k.passed in
    let d = length-drop i events in
    omega (arith, h, d, k.within, c.loop-end-test.true)

pub others-end-requires-clause-fits : goal.others-end-requires-clause-fits
others-end-requires-clause-fits g c =
    let bytes = c.args.bytes.now in
    let events = c.args.events.now in
    let k = c.loop-end.invariant in
    let i = c.loop-end.end - 1 in
    let back : i + 1 ≡ c.loop-end.end = omega (arith, c.loop-end-test.true) in
    let within : i < length events = omega (arith, c.loop-end-test.true, k.within) in
    let p = c.event.new.self in
    let moved =
    c.in_ok-event.ensures
    ∙ ap (λ (z : PassView). pass_event bytes z (get_or events i no_event)) (k.passed ∙ ap (λ (z : ℕ). passed bytes pass_start (drop z events)) (sym back))
    ∙ sym (ap (passed bytes pass_start) (drop_next events i within)) in
    let h = depth_fits bytes p.inner (around (reverse p.outer.items)) (reverse p.lists.items) (drop i events) moved in
    let d = length-drop i events in
    omega (arith, h, d, k.within, c.loop-end-test.true)

pub returns : goal.returns
returns g c = λ ns nodes is.
    let bytes = c.args.bytes.now in
    let none : c.loop-end.end ≡ 0 = omega (arith, c.loop-end-test.false) in
    ap (λ (p : PassView). p.lists)
    (c.loop-end.invariant.passed
    ∙ ap (λ (k : ℕ). passed bytes pass_start (drop k c.args.events.now)) none
    ∙ ap (passed bytes pass_start) is)
    ∙ lists_law bytes ns nodes
