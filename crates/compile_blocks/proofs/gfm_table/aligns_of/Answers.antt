use Rattle.std.proofs.Common.{◌≡◌, ◌+◌, ◌<◌, ◌∙◌, ℕ, List, length, sym, ap, subst}
use Rattle.std.specs.Result.{IfOk}
use Rattle.compile_blocks.proofs.Prelude.{Event, inside_of, IsAt}
use Rattle.engine_events.specs.declared.event.Name.TheVariants as n
use Rattle.event_check.specs.Align.{table_align}
use Rattle.compile_blocks.proofs.Found.{none_found, some_found}
use Rattle.compile_blocks.proofs.HeadAt.{child_at, same_kids}
use Rattle.compile_blocks.proofs.gfm_table.aligns_of.Goals as goal

pub returns-in_ok-clone-in-None : goal.returns-in_ok-clone-in-None
returns-in_ok-clone-in-None g c = λ enter exit kids stands k found.
    c.new.ensures.items ∙ sym (ap (λ o. table_align (inside_of o)) (none_found n.GfmTableHead kids c.args.head c.in-None.is found))

pub returns-in_ok-clone-in-Some : goal.returns-in_ok-clone-in-Some
returns-in_ok-clone-in-Some g c = λ enter exit kids stands k found.
    let events = c.args.source.now.checked.events.now in
    let index = c.args.index in
    let f = some_found n.GfmTableHead kids c.args.head c.in-Some.head c.in-Some.is found in
    let at = child_at n.GfmTableHead events index enter exit kids c.in-Some.head f k stands in
    let place = index + 1 + c.in-Some.head.index in
    let within : place < length c.events-events.result.now = (let P : List Event → Type 0 = λ es. place < length es in subst P (sym c.events-events.ensures) at.within) in
    let stands_at = (let P : ℕ → Type 0 = λ i. IsAt events i f.node in subst P (sym (c.index_within-at.ensures within)) at.stands) in
    let E : List Event → Type 0 = λ es. IsAt es c.index_within-at.result f.node in
    subst (λ x. IfOk c.table_aligns.result (λ columns. columns.items ≡ x))
    (ap table_align (same_kids f.node ∙ sym (ap inside_of f.named)))
    (c.table_aligns.ensures f.node (subst E (sym c.events-events.ensures) stands_at))
