use Rattle.std.proofs.Common.{[], ◌∷◌, sym, ap, subst, ◌∙◌}
use Rattle.engine_events.specs.declared.event.Name.TheVariants as n
use Rattle.parse_inline.proofs.Prelude.{AreHeld, Entered, leave_all, still_open}
use Rattle.parse_inline.specs.declared.opened.Open.TheVariants as held
use Rattle.parse_inline.proofs.Calls.{label_entered}
use Rattle.parse_inline.proofs.Held.{more}
use Rattle.parse_inline.proofs.label.enter_link.Goals as goal

pub returns-clause-open : goal.returns-clause-open
returns-clause-open g c =
    ap (λ os. leave_all os (still_open c.enter-3.new.self)) c.in_ok-push.ensures.items
    ∙ (more c.args.open.now.items held.Link (still_open c.args.walk.now) (still_open c.enter-3.new.self) c.requires.held
    (c.in_ok-enter-3.ensures.open
    ∙ ap (λ ms. Entered n.LabelText ∷ ms)
    (c.in_ok-link_start.ensures.open ∙ c.in_ok-enter-2.ensures.open ∙ ap (λ ms. Entered n.Label ∷ ms) c.in_ok-enter.ensures.open))).around

pub returns-clause-held : goal.returns-clause-held
returns-clause-held g c =
    subst (λ os. AreHeld os (still_open c.enter-3.new.self)) (sym c.in_ok-push.ensures.items)
    (more c.args.open.now.items held.Link (still_open c.args.walk.now) (still_open c.enter-3.new.self) c.requires.held
    (c.in_ok-enter-3.ensures.open
    ∙ ap (λ ms. Entered n.LabelText ∷ ms)
    (c.in_ok-link_start.ensures.open ∙ c.in_ok-enter-2.ensures.open ∙ ap (λ ms. Entered n.Label ∷ ms) c.in_ok-enter.ensures.open))).held

pub returns-clause-opened : goal.returns-clause-opened
returns-clause-opened g c = c.in_ok-push.ensures.items

pub returns-clause-written : goal.returns-clause-written
returns-clause-written g c text content stop st whole =
    label_entered text stop c.args.walk.now c.enter.new.self c.enter-2.new.self c.link_start.new.walk c.enter-3.new.self n.Link n.LabelLink (91 ∷ []) content
    (c.in_ok-enter.ensures.stays, c.in_ok-enter.ensures.written) (c.in_ok-enter-2.ensures.stays, c.in_ok-enter-2.ensures.written)
    (c.in_ok-link_start.ensures.written text content stop) (c.in_ok-enter-3.ensures.stays, c.in_ok-enter-3.ensures.written) st whole
