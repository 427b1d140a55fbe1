use Rattle.std.proofs.Common.{◌≡◌, arith, drop, length, length-append, subst, ap, ◌∙◌}
use Rattle.parse_links.proofs.Prelude.{drop_at, IsCharBoundary}
use Rattle.parse_links.proofs.resource.last.Goals as goal

pub returns : goal.returns
returns c = λ front rest is count cut.
    let n = c.saturating_sub.result in
    let size : length front ≡ n = omega (arith, c.saturating_sub.ensures, ap length is, length-append front rest, count) in
    c.from.ensures.rest (subst (IsCharBoundary c.args.text.now) size cut) ∙ ap (drop n) is ∙ drop_at front rest n size
