use Rattle.std.proofs.Common.{◌≡◌, ◌∙◌, ◌+◌, ◌-◌, [], ◌∷◌, false, sym, ap, arith, drop, take, length}
use Rattle.inline_addresses.proofs.Prelude.{drop_all, has_at_sign, length-drop, row_text, rows_may_link}
use Rattle.std.proofs.lemmas.List.{drop_more, take_all}
use Rattle.inline_addresses.proofs.Unlinked.{from_link, nothing_linked}
use Rattle.inline_addresses.proofs.links.may_link.Goals as goal

pub returns-then-begins_link-clause-same : goal.returns-then-begins_link-clause-same
returns-then-begins_link-clause-same c =
    let rows = c.args.rows.now in
    let i = c.loop-place.place in
    let row = c.index-rows-place.result in
    let here : drop i rows ≡ row ∷ drop (i + 1) rows =
    drop_more rows i row c.loop-place-test.true ∙ ap (λ r. r ∷ drop (i + 1) rows) (sym c.index-rows-place.is) in
    let all = take_all (length rows - i) (drop i rows) (omega (arith, length-drop i rows)) in
    let none : has_at_sign (row_text row) ≡ false = sym c.if-row_has_at_sign.ensures in
    c.any_may_link.ensures
    ∙ from_link (drop i rows) (drop (i + 1) rows) (take (length rows - i) (drop i rows)) row here none (sym c.if-begins_link.ensures) all
    ∙ sym c.loop-place.invariant

pub returns-then-begins_link-clause-none : goal.returns-then-begins_link-clause-none
returns-then-begins_link-clause-none c leads at kids is same =
    nothing_linked at leads c.args.rows.now kids (sym (returns-then-begins_link-clause-same c) ∙ is) same

pub returns-clause-same : goal.returns-clause-same
returns-clause-same c =
    let rows = c.args.rows.now in
    let i = c.loop-place.place in
    let ended : drop i rows ≡ [] = drop_all i rows (omega (arith, c.loop-place-test.false)) in
    sym (c.loop-place.invariant ∙ ap rows_may_link ended)

pub returns-clause-none : goal.returns-clause-none
returns-clause-none c leads at kids is same = nothing_linked at leads c.args.rows.now kids (sym (returns-clause-same c)) same
