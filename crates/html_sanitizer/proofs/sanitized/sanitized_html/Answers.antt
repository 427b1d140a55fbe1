use Rattle.std.proofs.Common.{ap, subst, sym, ◌∙◌}
use Rattle.definition_html.specs.State.{State, all_ended}
use Rattle.html_listed.specs.Laws.{IsSanitized}
use Rattle.html_listed.proofs.Sanitized.{sanitized_law}
use Rattle.html_sanitizer.specs.Sanitized.{page_after}
use Rattle.html_sanitizer.proofs.sanitized.sanitized_html.Goals as goal

pub returns-clause-page : goal.returns-clause-page
returns-clause-page g c =
    let names = g.T.Tables.reference_of c.args.tables.now in
    ap (λ (s : State). s.out)
    (c.in_ok-end_all.ensures ∙ ap all_ended (c.in_ok-push_raw.ensures
    ∙ ap (λ s. page_after names c.args.options.now s c.args.html.now) c.in_ok-page.ensures))

pub returns-clause-listed : goal.returns-clause-listed
returns-clause-listed g c = λ safe.
    let names = g.T.Tables.reference_of c.args.tables.now in
    subst IsSanitized
    (sym (ap (λ (s : State). s.out)
    (c.in_ok-end_all.ensures ∙ ap all_ended (c.in_ok-push_raw.ensures
    ∙ ap (λ s. page_after names c.args.options.now s c.args.html.now) c.in_ok-page.ensures))))
    (sanitized_law names c.args.options.now c.args.html.now safe)
