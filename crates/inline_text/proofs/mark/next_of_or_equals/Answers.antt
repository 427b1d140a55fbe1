use Rattle.std.proofs.Common.{true, ◌≡◌, sym, ap, ◌∙◌, arith, inl, inr}
use Rattle.std.proofs.lemmas.Bool.{cases_lt}
use Rattle.inline_text.specs.Mark.{stops_with}
use Rattle.inline_text.proofs.mark.next_of_or_equals.Goals as goal

pub loop-at-preserved : goal.loop-at-preserved
loop-at-preserved c =
    let at = c.loop-at.at in (
      omega (arith, c.loop-at-test.true),
      λ k lt. elim (cases_lt k at) [
        | inl before ↦ c.loop-at.invariant.1 k before
        | inr after ↦
            let here : k ≡ at = omega (arith, lt, after) in
            ap (stops_with c.args.has_literals true c.args.stops c.args.bytes.now) here ∙ sym c.stops_at.ensures ∙ c.if-stops_at.false
      ],
    )
