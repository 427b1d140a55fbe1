use Rattle.std.proofs.Common.{ap, ◌∙◌, subst, List}
use Rattle.parse_lines.proofs.Prelude.{AreQuotesWithin, CodeContainer, container_view, container_views, standing}
use Rattle.parse_lines.proofs.Containers.{views_more}
use Rattle.parse_lines.proofs.Steps.{leaves}
use Rattle.parse_lines.proofs.walk.Walk.leave.Goals as goal

pub returns-clause-leaves : goal.returns-clause-leaves
returns-clause-leaves g c =
    let popped = c.in_ok-container.ensures in
    leaves (standing c.args.self.now) (container_view c.in_ok-container.container) (container_views c.pop.new.self.items) c.quotes_end-self.result
    (ap container_views popped.items ∙ views_more c.pop.new.self.items c.in_ok-container.container)
    (subst (λ (xs : List CodeContainer). AreQuotesWithin c.args.self.now.quotes_end (container_views xs)
    → AreQuotesWithin c.quotes_end-self.result (container_views xs))
    c.deref.ensures.value c.quotes_end-self.ensures)
