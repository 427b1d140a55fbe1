use Rattle.std.proofs.Common.{◌≡◌, [], length}
use Rattle.state_edits_links.specs.GfmAutolinkLiteral.{with_links, linking}
use Rattle.state_edits_links.specs.Views.{linking_view}
use Rattle.state_edits_links.proofs.gfm_autolink_literal.address_events.Given as goal

-- what is left becomes what all becomes
abbrev pub invariant-loop-found : goal.invariant-loop-found
invariant-loop-found g l = with_links (linking_view l.linking []) l.rest ≡ with_links (linking [] l.fn.point []) l.run

abbrev pub decreases-loop-found : goal.decreases-loop-found
decreases-loop-found g l = length l.rest
