use Rattle.markdown_links.proofs.Definitions.{HasFront}
use Rattle.markdown_links.proofs.definition.Definitions.read.Given as goal

abbrev pub invariant-loop-place : goal.invariant-loop-place
invariant-loop-place g l = HasFront l.bytes l.events l.spans l.place l.found
