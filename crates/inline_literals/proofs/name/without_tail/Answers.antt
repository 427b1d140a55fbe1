use Rattle.std.proofs.Common.{sym, ◌∙◌, refl}
use Rattle.std.specs.Prelude.{codes}
use Rattle.inline_literals.proofs.Ascii.{among_ascii}
use Rattle.inline_literals.proofs.Names.{cut_trailing, next_cut}
use Rattle.inline_literals.proofs.name.without_tail.Goals as goal

pub loop-end-preserved-then-is_trailing : goal.loop-end-preserved-then-is_trailing
loop-end-preserved-then-is_trailing c =
    let text = c.args.text.now in
    let end = c.loop-end.end in
    let now = c.loop-end.invariant in
    let is = sym c.is_trailing.ensures ∙ c.if-is_trailing.true in
    let next = cut_trailing text end c.loop-end.closed c.count_of-opened.result c.cut_more.result
    (record { within = now.within; same = now.same; closed_is = now.closed; opened_is = now.opened })
    c.loop-end-test.true is c.cut_more.ensures.size in
    record {
      within = next.within;
      same = next.same;
      next = λ less. next_cut text end c.cut_more.result c.loop-end-test.true now.within c.cut_more.ensures.within
          (among_ascii (codes "!\"'*,.:;?_~") _ refl is) c.cut_more.ensures.first;
      closed = next.closed_is;
      opened = next.opened_is;
    }
