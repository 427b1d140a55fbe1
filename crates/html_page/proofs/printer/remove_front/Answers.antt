use Rattle.std.proofs.Common.{◌≡◌, ◌-◌, take, drop, length, ap, ◌∙◌, arith, vec_len}
use Rattle.html_page.proofs.Prelude.{take_at}
use Rattle.html_page.proofs.printer.remove_front.Goals as goal

pub returns-clause-items : goal.returns-clause-items
returns-clause-items g c =
    let all = c.args.items.now.items in
    let count = c.args.count in
    let moved = c.move_to_front.new.items in
    let left : c.len.result - count ≡ length c.deref_mut.result.now - count =
    omega (arith, c.len.ensures, c.deref_mut.ensures.len) in
    c.shrink_to_fit.ensures.items
    ∙ c.truncate.ensures.items
    ∙ ap (take (c.len.result - count)) (take_at moved (drop (length moved) all) (vec_len c.args.items.now) (omega (arith, c.move_to_front.ensures.len, c.deref_mut.ensures.len)))
    ∙ ap (λ k. take k moved) left
    ∙ c.move_to_front.ensures.moved
    ∙ ap (drop count) c.deref_mut.ensures.value
