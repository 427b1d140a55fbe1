use Rattle.std.proofs.Common.{◌≡◌, ◌++◌, OnOk, Some, ap, drop, length, subst, sym, take}
use Rattle.inline_addresses.proofs.Prelude.{IsNext, row_text, rows_view, text_or_end, walk_rows}
use Rattle.inline_addresses.proofs.Walks.{next_taken, text_row, verbatim_is}
use Rattle.inline_addresses.proofs.walk.Walk.step.Goals as goal

pub lines-requires-clause-next : goal.lines-requires-clause-next
lines-requires-clause-next g c =
    let walk = c.args.self.now in
    let verbatim = verbatim_is c.args.row c.in-Some.text.now (sym c.in-Some.ensures) in
    subst (λ o. IsNext walk.text.now walk.size (text_or_end o)) verbatim.row c.requires.next

pub returns-in-Some-clause-text : goal.returns-in-Some-clause-text
returns-in-Some-clause-text g c =
    let walk = c.args.self.now in
    let verbatim = verbatim_is c.args.row c.in-Some.text.now (sym c.in-Some.ensures) in
    subst (λ o. OnOk c.lines.result (drop c.lines.new.self.size c.lines.new.self.text.now ≡ drop (length (text_or_end o)) (drop walk.size walk.text.now)))
    (sym verbatim.row) c.lines.ensures.text

pub returns-in-Some-clause-rows : goal.returns-in-Some-clause-rows
returns-in-Some-clause-rows g c at rest =
    let walk = c.args.self.now in
    let verbatim = verbatim_is c.args.row c.in-Some.text.now (sym c.in-Some.ensures) in
    subst (λ view. OnOk c.lines.result (walk_rows at c.lines.new.self rest ≡ walk_rows at walk (view ++ rest))) (sym (verbatim.view at))
    (c.lines.ensures.rows at rest)

pub returns-in-Some-text_of-clause-rows : goal.returns-in-Some-text_of-clause-rows
returns-in-Some-text_of-clause-rows g c at rest =
    let walk = c.args.self.now in
    let text = c.in-Some-text_of.text.now in
    let some : row_text c.args.row ≡ Some text = sym c.in-Some-text_of.ensures in
    let next : IsNext walk.text.now walk.size text = subst (λ o. IsNext walk.text.now walk.size (text_or_end o)) some c.requires.next in
    ap (λ l. rows_view at walk.rows.items ++ l)
    (text_row at walk.depth (take walk.size walk.text.now) text _ c.args.row rest (sym c.in_default.ensures) some
    (next_taken walk.text.now walk.size text next))
