use Rattle.std.proofs.Common.{◌≡◌}
use Rattle.engine_edits.specs.Edits.{edits_of}
use Rattle.state_edits_links.specs.Autolink.{email_edits}
use Rattle.state_edits_links.proofs.autolink.email_edits.Given as goal

-- the edits are those up to the index
abbrev pub invariant-loop-index : goal.invariant-loop-index
invariant-loop-index g l = edits_of l.edits ≡ email_edits l.bytes l.events l.index
