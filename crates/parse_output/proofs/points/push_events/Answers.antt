use Rattle.std.proofs.Common.{◌∙◌}
use Rattle.parse_output.proofs.Forests.{all_told}
use Rattle.parse_output.proofs.points.push_events.Goals as goal

pub returns-clause-each : goal.returns-clause-each
returns-clause-each g c = λ order reaches.
    c.in_ok-push_rest.ensures.none
    (all_told c.args.text.now c.args.drafts.now c.push_drafts-events.result.place (c.push_drafts-events.ensures.end order) reaches)
    ∙ c.push_drafts-events.ensures.each order
