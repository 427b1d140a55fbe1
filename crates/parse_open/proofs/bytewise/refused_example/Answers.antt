use Rattle.parse_open.proofs.BytewiseEvents.{refused_example}
use Rattle.parse_open.proofs.bytewise.refused_example.Goals as goal

pub returns : goal.returns
returns c = refused_example
