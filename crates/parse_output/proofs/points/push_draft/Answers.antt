use Rattle.std.proofs.Common.{◌++◌, ◌∷◌, [], None, append_assoc, sym, subst, ap, ap₂, ◌∙◌}
use Rattle.engine_events.specs.declared.event.Kind.TheVariants as kind
use Rattle.parse_output.proofs.Prelude.{draft_events, end_at, enter_at, event, GoesOnward, IsTold}
use Rattle.parse_output.proofs.TokenLists.{enters, exits, passes}
use Rattle.parse_output.proofs.Ends.{point_reached}
use Rattle.parse_output.proofs.points.push_draft.Goals as goal

pub returns-in-Enter-clause-told : goal.returns-in-Enter-clause-told
returns-in-Enter-clause-told g c =
    subst (λ es. IsTold c.args.text.now es c.args.place.now)
    (sym (c.push_reserved.ensures.items ∙ ap (λ e. c.args.events.now.items ++ e ∷ []) c.event.ensures))
    (enters c.args.text.now c.args.events.now.items c.args.place.now c.in-Enter.name c.requires.told)

pub returns-in-Exit-clause-told : goal.returns-in-Exit-clause-told
returns-in-Exit-clause-told g c =
    subst (λ es. IsTold c.args.text.now es c.args.place.now)
    (sym (c.push_reserved-in-Exit.ensures.items ∙ ap (λ e. c.args.events.now.items ++ e ∷ []) c.event-in-Exit.ensures))
    (exits c.args.text.now c.args.events.now.items c.args.place.now c.in-Exit.name c.requires.told)

pub returns-in-Void-clause-told : goal.returns-in-Void-clause-told
returns-in-Void-clause-told g c =
    subst (λ es. IsTold c.args.text.now es c.pass.new.self)
    (sym (c.push_reserved-in-Void-2.ensures.items
    ∙ ap₂ (λ es e. es ++ e ∷ []) (c.push_reserved-in-Void.ensures.items
    ∙ ap (λ e. c.args.events.now.items ++ e ∷ []) c.event-in-Void.ensures) c.event-in-Void-2.ensures))
    (passes c.args.text.now c.args.events.now.items c.args.place.now c.pass.new.self c.in-Void.name c.requires.told c.pass.ensures.goes_on)

pub returns-in-Enter-clause-each : goal.returns-in-Enter-clause-each
returns-in-Enter-clause-each g c = λ from within goes at.
    let text = c.args.text.now in
    let before = c.args.events.now.items in
    c.push_reserved.ensures.items
    ∙ ap (λ e. before ++ e ∷ []) (c.event.ensures ∙ ap (λ p. event kind.Enter c.in-Enter.name p None) (point_reached text from c.args.place.now at within))
    ∙ ap (λ d. before ++ draft_events text from d) (sym c.in-Enter.is)

pub returns-in-Exit-clause-each : goal.returns-in-Exit-clause-each
returns-in-Exit-clause-each g c = λ from within goes at.
    let text = c.args.text.now in
    let before = c.args.events.now.items in
    c.push_reserved-in-Exit.ensures.items
    ∙ ap (λ e. before ++ e ∷ []) (c.event-in-Exit.ensures ∙ ap (λ p. event kind.Exit c.in-Exit.name p None) (point_reached text from c.args.place.now at within))
    ∙ ap (λ d. before ++ draft_events text from d) (sym c.in-Exit.is)

pub returns-in-Void-clause-each : goal.returns-in-Void-clause-each
returns-in-Void-clause-each g c = λ from within goes at.
    let text = c.args.text.now in
    let before = c.args.events.now.items in
    let name = c.in-Void.name in
    let to = end_at c.in-Void.index c.in-Void.owed in
    let follows = (subst (GoesOnward text from) c.in-Void.is goes).follows in
    let enters = c.event-in-Void.ensures ∙ ap (λ p. event kind.Enter name p None) (point_reached text from c.args.place.now at within) in
    let exits = c.event-in-Void-2.ensures ∙ ap (λ p. event kind.Exit name p None)
    (point_reached text to c.pass.new.self (c.pass.ensures.end from at follows) follows.within) in
    c.push_reserved-in-Void-2.ensures.items
    ∙ ap₂ (λ es e. es ++ e ∷ []) (c.push_reserved-in-Void.ensures.items ∙ ap (λ e. before ++ e ∷ []) enters) exits
    ∙ append_assoc before (enter_at text name from ∷ []) _
    ∙ ap (λ d. before ++ draft_events text from d) (sym c.in-Void.is)
