use Rattle.std.proofs.Common.{sym, ap, ◌∙◌, slice_index}
use Rattle.parse_links.proofs.Prelude.{both_ok, resource_of}
use Rattle.parse_links.proofs.Resources.{inside_none, inside_place, target_nothing}
use Rattle.parse_links.proofs.resource.push_inside.Goals as goal

pub returns-then-first-eq41-clause-written : goal.returns-then-first-eq41-clause-written
returns-then-first-eq41-clause-written g c = λ bytes stop read st whole.
    let xs = c.args.text.now in
    let r = resource_of c.args.found.now in
    let is =
    inside_none xs r (ap (λ ys. slice_index ys 0) (sym c.as_bytes.ensures.value) ∙ sym c.first.ensures ∙ c.if-first-eq41.true) read in
    target_nothing bytes stop c.args.on.now (g.T.Tables.reference_of c.args.tables.now) c.args.walk.now xs r is.0 is.1 is.2 st whole

pub returns-clause-written : goal.returns-clause-written
returns-clause-written g c =
    both_ok c.push_target.result
    (λ written same bytes stop read st whole.
    let xs = c.args.text.now in
    let is =
    inside_place xs (resource_of c.args.found.now)
    (λ first. c.if-first-eq41.false (c.first.ensures ∙ ap (λ ys. slice_index ys 0) c.as_bytes.ensures.value ∙ first)) read in
    written bytes is.place stop is.read is.after st whole)
    c.push_target.ensures.written c.push_target.ensures.open
