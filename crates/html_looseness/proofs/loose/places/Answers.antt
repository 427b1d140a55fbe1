use Rattle.std.proofs.Common.{◌≡◌, ap, sym, ◌∙◌, map, reverse}
use Rattle.std.specs.List.{fold}
use Rattle.std.proofs.lemmas.Iterator.Adapters.{YieldsList-from_rev_slice}
use Rattle.std.proofs.lemmas.Iterator.Consumers.{YieldsList-end}
use Rattle.html_looseness.specs.Loose.{PassView, pass_start, places_of}
use Rattle.html_looseness.proofs.Backward.{pass_bare, passed_backward, no_items}
use Rattle.html_looseness.proofs.ListPlaces.{places_are}
use Rattle.html_looseness.proofs.loose.places.Goals as goal

pub returns-then-not-has_items-clause-rows : goal.returns-then-not-has_items-clause-rows
returns-then-not-has_items-clause-rows g c =
    λ ls. ap reverse c.new.ensures.items ∙ sym (no_items c.args.rows.now ls (sym c.has_items.ensures ∙ c.if-not-has_items.true))

pub returns-then-not-has_items-clause-lists : goal.returns-then-not-has_items-clause-lists
returns-then-not-has_items-clause-lists g c = λ ls bs are can. returns-then-not-has_items-clause-rows g c ls ∙ ap places_of are ∙ places_are bs can

pub returns-clause-rows : goal.returns-clause-rows
returns-clause-rows g c =
    let rows = c.args.rows.now in
    let all : map (λ y. y.now) c.loop-row.yielded ≡ reverse rows =
    (YieldsList-end (YieldsList-from_rev_slice rows cc) c.loop-row.yielded _ c.loop-row.yielded_by _ _ c.in-None.is c.next.ensures.steps).0 in
    λ ls. ap (λ (p : PassView). p.places) (c.loop-row.invariant ∙ ap (fold pass_bare pass_start) all ∙ passed_backward pass_start rows ls)

pub returns-clause-lists : goal.returns-clause-lists
returns-clause-lists g c = λ ls bs are can. returns-clause-rows g c ls ∙ ap places_of are ∙ places_are bs can
