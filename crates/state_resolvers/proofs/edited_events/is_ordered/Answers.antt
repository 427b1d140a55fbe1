use Rattle.state_resolvers.proofs.Ordered.{same_test}
use Rattle.state_resolvers.proofs.edited_events.is_ordered.Goals as goal

pub returns-clause-same : goal.returns-clause-same
returns-clause-same g c = same_test _ _ _ c.is_ordered.ensures.yes c.is_ordered.ensures.no
