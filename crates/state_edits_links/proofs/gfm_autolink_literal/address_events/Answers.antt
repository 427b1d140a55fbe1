use Rattle.std.proofs.Common.{◌≡◌, ◌∙◌, ◌-◌, List, [], take, drop, sym, ap}
use Rattle.engine_events.specs.declared.event.Event.{Event}
use Rattle.inline_leaves.specs.Leaves.{kind_view}
use Rattle.state_edits_links.specs.GfmAutolinkLiteral.{Linking, with_links, linking, with_address, with_data}
use Rattle.state_edits_links.specs.Views.{linking_view}
use Rattle.state_edits_links.proofs.GfmAutolinkLiteral.{found_linked, rest_linked}
use Rattle.state_edits_links.proofs.gfm_autolink_literal.address_events.Goals as goal

pub loop-found-init : goal.loop-found-init
loop-found-init g c = ap (λ (es : List Event). with_links (linking es c.args.point []) c.args.run.now) c.new.ensures.items

pub loop-found-preserved : goal.loop-found-preserved
loop-found-preserved g c =
    let text = c.loop-found.rest.now in
    let found = c.in-Some.found in
    let kind = kind_view found.kind in
    let before = linking_view c.loop-found.linking (take found.start text) in
    let held : linking_view c.hold.new.self [] ≡ with_data before = rw (c.part.ensures) at c.in_ok-hold.ensures.held in
    let here : linking_view c.link.new.self [] ≡ with_address kind (take (found.end - found.start) (drop found.start text)) (linking_view c.hold.new.self []) =
    rw (c.part-in-Some.ensures) at c.in_ok-link.ensures.linked in
    rw (c.from-rest.ensures) (ap (λ (l : Linking). with_links l (drop found.end text))
    (here ∙ ap (with_address kind (take (found.end - found.start) (drop found.start text))) held)
    ∙ sym (found_linked (linking_view c.loop-found.linking []) text found c.in-Some.ensures.parts)
    ∙ c.loop-found.invariant)

pub returns-clause-events : goal.returns-clause-events
returns-clause-events g c =
    ap (λ (l : Linking). l.events)
    (c.in_ok-hold-2.ensures.held
    ∙ sym (rest_linked (linking_view c.loop-found.linking []) c.loop-found.rest.now c.in_default.ensures.parts)
    ∙ c.loop-found.invariant)
