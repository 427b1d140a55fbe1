use Rattle.std.proofs.Common.{◌≡◌, arith, take, length, length-append, subst, ap, ◌∙◌}
use Rattle.parse_links.proofs.Prelude.{IsCharBoundary, take_at}
use Rattle.parse_links.proofs.resource.without_last.Goals as goal

pub returns : goal.returns
returns c = λ front rest is count cut.
    let n = c.saturating_sub.result in
    let size : length front ≡ n = omega (arith, c.saturating_sub.ensures, ap length is, length-append front rest, count) in
    c.up_to.ensures.front (subst (IsCharBoundary c.args.text.now) size cut) ∙ ap (take n) is ∙ take_at front rest n size
