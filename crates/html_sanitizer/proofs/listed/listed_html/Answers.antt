use Rattle.std.proofs.Common.{ap, length, rules, subst, sym, ◌∙◌}
use Rattle.std.proofs.lemmas.Bool.{eqb-true}
use Rattle.html_listed.specs.Laws.{HasOneListedReading, IsMixedPage}
use Rattle.html_listed.specs.Mixed.{tags_of}
use Rattle.definition_html.specs.State.{State, all_ended}
use Rattle.html_listed.proofs.Listed.{listed_law, standing_law}
use Rattle.html_listed.proofs.Unmarked.{unmarked_law}
use Rattle.html_sanitizer.specs.Elements.{parts_after}
use Rattle.html_sanitizer.specs.Page.{page_state}
use Rattle.html_sanitizer.proofs.Nameless.{page_done}
use Rattle.html_sanitizer.proofs.listed.listed_html.Goals as goal

pub loop-rest-init : goal.loop-rest-init
loop-rest-init g c =
    let names = g.T.Tables.reference_of c.args.tables.now in
    let options = c.args.options.now in
    let page = c.args.page.now in (
      search rules,
      c.in_ok-rest.ensures.tag,
      c.in_ok-rest.ensures.printed names options ∙ ap (λ s. parts_after names options s page) c.in_ok-out.ensures,
    )

pub loop-rest-preserved : goal.loop-rest-preserved
loop-rest-preserved g c =
    let names = g.T.Tables.reference_of c.args.tables.now in
    let options = c.args.options.now in (
      search rules,
      c.in_ok-rest-2.ensures.tag,
      c.in_ok-rest-2.ensures.printed names options ∙ c.in_ok-after.ensures.printed ∙ c.loop-rest.invariant.2,
    )

pub returns-clause-page : goal.returns-clause-page
returns-clause-page g c =
    let names = g.T.Tables.reference_of c.args.tables.now in
    let rest = c.loop-rest.rest.now in
    ap (λ (s : State). s.out)
    (c.in_ok-end_all.ensures ∙ ap all_ended (sym (page_done names c.args.options.now (page_state c.loop-rest.out) rest
    (eqb-true (length rest) 0 (sym c.is_empty.ensures ∙ c.loop-rest-test.false))) ∙ c.loop-rest.invariant.2))

pub returns-clause-listed : goal.returns-clause-listed
returns-clause-listed g c = λ safe table marked.
    let names = g.T.Tables.reference_of c.args.tables.now in
    let rest = c.loop-rest.rest.now in
    subst (HasOneListedReading table) (sym (ap (λ (s : State). s.out)
    (c.in_ok-end_all.ensures ∙ ap all_ended (sym (page_done names c.args.options.now (page_state c.loop-rest.out) rest
    (eqb-true (length rest) 0 (sym c.is_empty.ensures ∙ c.loop-rest-test.false))) ∙ c.loop-rest.invariant.2))))
    (listed_law names c.args.options.now table c.args.page.now safe marked)

pub returns-clause-standing : goal.returns-clause-standing
returns-clause-standing g c = λ safe table marked.
    let names = g.T.Tables.reference_of c.args.tables.now in
    let rest = c.loop-rest.rest.now in
    subst (IsMixedPage table (tags_of marked.0)) (sym (ap (λ (s : State). s.out)
    (c.in_ok-end_all.ensures ∙ ap all_ended (sym (page_done names c.args.options.now (page_state c.loop-rest.out) rest
    (eqb-true (length rest) 0 (sym c.is_empty.ensures ∙ c.loop-rest-test.false))) ∙ c.loop-rest.invariant.2))))
    (standing_law names c.args.options.now table c.args.page.now safe marked)

pub returns-clause-unmarked : goal.returns-clause-unmarked
returns-clause-unmarked g c = λ table safe.
    let names = g.T.Tables.reference_of c.args.tables.now in
    let rest = c.loop-rest.rest.now in
    ap (λ (s : State). s.out)
    (c.in_ok-end_all.ensures ∙ ap all_ended (sym (page_done names c.args.options.now (page_state c.loop-rest.out) rest
    (eqb-true (length rest) 0 (sym c.is_empty.ensures ∙ c.loop-rest-test.false))) ∙ c.loop-rest.invariant.2))
    ∙ unmarked_law names c.args.options.now table c.args.page.now safe
