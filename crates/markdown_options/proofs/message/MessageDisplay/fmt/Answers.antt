-- The place is the one of the message, so the text begins with it.
use Rattle.std.proofs.Common.{arith}
use Rattle.std.proofs.lemmas.Grind.{common_steps}
use Rattle.markdown_options.proofs.message.MessageDisplay.fmt.Goals as goal

pub returns-in-Some-clause-writes : goal.returns-in-Some-clause-writes
returns-in-Some-clause-writes g c = rw c.in-Some.is (grind (arith, common_steps))
