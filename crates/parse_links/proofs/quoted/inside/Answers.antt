use Rattle.std.proofs.Common.{◌≡◌, ◌+◌, ◌<◌, ◌∷◌, [], arith, get_or, length, length-append, drop, take, subst, sym, ap, ◌∙◌}
use Rattle.parse_links.proofs.Prelude.{boundary_after_byte, get_or_at, IsCharBoundary, IsCharBoundary-before_ascii, take_at}
use Rattle.parse_links.proofs.quoted.inside.Goals as goal

pub returns : goal.returns
returns c = λ string opening closing is small large.
    let xs = c.args.text.now in
    let n = c.saturating_sub.result in
    let size : length xs ≡ length (opening ∷ string) + 1 = ap length is ∙ length-append (opening ∷ string) (closing ∷ []) in
    let place : n ≡ length (opening ∷ string) = omega (arith, c.saturating_sub.ensures, size) in
    let last : get_or xs n 0 ≡ closing = ap (λ ys. get_or ys n 0) is ∙ get_or_at (opening ∷ string) closing [] 0 n (sym place) in
    let cut : IsCharBoundary xs n = IsCharBoundary-before_ascii xs n (omega (arith, place, size)) (subst (λ b. b < 128) (sym last) large) in
    let front : c.up_to-front.result.now ≡ opening ∷ string =
    c.up_to-front.ensures.front cut ∙ ap (take n) is ∙ take_at (opening ∷ string) (closing ∷ []) n (sym place) in
    let first : get_or c.up_to-front.result.now 0 0 ≡ opening = ap (λ ys. get_or ys 0 0) front in
    c.from.ensures.rest
    (boundary_after_byte c.up_to-front.result.now 1 c.up_to-front.utf8 (omega arith) (omega (arith, ap length front)) (subst (λ b. b < 128) (sym first) small))
    ∙ ap (drop 1) front
