use Rattle.std.proofs.Common.{true, ◌≡◌, ◌+◌, get_or, sym, ap, ◌∙◌, subst, arith, inl, inr}
use Rattle.std.proofs.lemmas.Bool.{cases_lt, or_from}
use Rattle.text_search.specs.Sets.{holds}
use Rattle.inline_text.specs.Letters.{is_extra_or_letters, stops_at, IsStop}
use Rattle.inline_text.proofs.LetterRuns.{at_end}
use Rattle.inline_text.proofs.letters.next_one_by_one.Goals as goal

pub loop-at-preserved : goal.loop-at-preserved
loop-at-preserved c =
    let bytes = c.args.bytes.now in
    let at = c.loop-at.at in (
      omega (arith, c.loop-at-test.true),
      λ k lt. elim (cases_lt k at) [
        | inl before ↦ c.loop-at.invariant.1 k before
        | inr after ↦
            let here : k ≡ at = omega (arith, lt, after) in
            ap (stops_at true c.args.stops bytes) here
            ∙ or_from (holds c.args.stops.set (get_or bytes at 0))
            (is_extra_or_letters c.args.stops.extra (get_or bytes at 0) (get_or bytes (at + 1) 0)) (sym c.if-passes.ensures)
            (sym c.if-is_extra_or_letters.ensures)
      ],
    )

pub returns : goal.returns
returns c =
    subst (IsStop true c.args.stops c.args.bytes.now) (sym c.end_before.ensures)
    (at_end c.args.stops c.args.bytes.now (λ k lt. c.loop-at.invariant.1 k (omega (arith, lt, c.loop-at-test.false))))
