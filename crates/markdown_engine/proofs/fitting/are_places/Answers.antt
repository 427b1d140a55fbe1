use Rattle.std.proofs.Common.{◌≡◌, ◌∙◌, inl, inr, ℕ, IsTrue, Bool, subst, arith}
use Rattle.markdown_engine.proofs.Prelude.{cases_lt, IsPlace, place_at, Point}
use Rattle.markdown_engine.proofs.ChainSteps.{place_read}
use Rattle.markdown_engine.proofs.fitting.are_places.Goals as goal

pub returns-then-not-is_place : goal.returns-then-not-is_place
returns-then-not-is_place c =
    let events = c.args.events.now in
    let i = c.loop-event.event-index in
    let here : c.point.result ≡ place_at events i = c.point.ensures ∙ place_read events i _ c.loop-event-test.true in (
      λ h. absurd (let e : mathlib.Core.Bool.false ≡ mathlib.Core.Bool.true = h in cc),
      λ all. subst (λ (z : Bool). IsTrue z) c.if-not-is_place.true (c.is_place.ensures.1 (rw here (all i c.loop-event-test.true))),
    )

pub loop-event-preserved : goal.loop-event-preserved
loop-event-preserved c =
    let events = c.args.events.now in
    let i = c.loop-event.event-index in
    let here : c.point.result ≡ place_at events i = c.point.ensures ∙ place_read events i _ c.loop-event-test.true in
    let there : IsPlace c.args.bytes.now (place_at events i) =
    subst (λ (z : Point). IsPlace c.args.bytes.now z) here (c.is_place.ensures.0 c.if-not-is_place.false) in
    λ k low. elim (cases_lt k i) [
      | inl l ↦ c.loop-event.invariant k l
      | inr l ↦ (let e : i ≡ k = omega arith in
          subst (λ (z : ℕ). IsPlace c.args.bytes.now (place_at events z)) e there)
    ]
