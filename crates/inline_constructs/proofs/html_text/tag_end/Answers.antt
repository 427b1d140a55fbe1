use Rattle.std.proofs.Common.{◌≡◌, ◌∙◌, ◌+◌, ◌-◌, get_or, sym, ap, arith}
use Rattle.inline_constructs.proofs.Prelude.{is_end, next, place_of}
use Rattle.inline_constructs.proofs.HtmlTextLemmas.{ends_at_greater}
use Rattle.inline_constructs.proofs.html_text.tag_end.Goals as goal

pub returns-in-End-clause-place : goal.returns-in-End-clause-place
returns-in-End-clause-place c =
    let place = place_of c.loop-i.place in
    let ends = sym (ap is_end (c.in-End.ensures ∙ ap (next place) c.ending_as_feed.ensures)) in
    let last = ends_at_greater place (get_or c.args.bytes.now c.loop-i.i 0) c.loop-i.invariant.goes_on ends in
    let here : c.loop-i.i ≡ c.loop-i.i + 1 - 1 = omega arith in
    record {
      some = omega arith;
      within = omega arith;
      greater = ap (λ k. get_or c.args.bytes.now k 0) (sym here) ∙ last;
    }
