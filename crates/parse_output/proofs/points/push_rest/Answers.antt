use Rattle.std.proofs.Common.{arith, refl, ◌++◌, ◌∷◌, [], sym, subst, ap₂, ◌∙◌}
use Rattle.parse_output.proofs.Prelude.{ArePlaced}
use Rattle.engine_events.specs.declared.event.Name.TheVariants.{Data, Paragraph}
use Rattle.parse_output.proofs.TokenLists.{rest_placed}
use Rattle.parse_output.proofs.points.push_rest.Goals as goal

pub returns-clause-placed : goal.returns-clause-placed
returns-clause-placed g c =
    subst (ArePlaced c.args.text.now)
    (sym (c.in_ok-push-4.ensures.items
    ∙ ap₂ (λ es e. es ++ e ∷ []) (c.in_ok-push-3.ensures.items
    ∙ ap₂ (λ es e. es ++ e ∷ []) (c.in_ok-push-2.ensures.items
    ∙ ap₂ (λ es e. es ++ e ∷ []) (c.in_ok-push.ensures.items
    ∙ ap₂ (λ es e. es ++ e ∷ []) refl c.event.ensures) c.event-2.ensures) c.event-3.ensures) c.event-4.ensures))
    (rest_placed c.args.text.now c.args.events.now.items c.args.place c.pass_to-end.result Paragraph Data c.requires.told c.pass_to-end.ensures.goes_on
    c.pass_to-end.ensures.place (c.pass_to-end.ensures.index (omega arith)))
