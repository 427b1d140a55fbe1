use Rattle.inline_leaves.proofs.Endings.{here_or_not}
use Rattle.inline_leaves.proofs.line_ending.ends_here.Goals as goal

pub returns-in-None : goal.returns-in-None
returns-in-None c = here_or_not c.args.bytes.now c.is_empty.result c.is_empty.ensures c.in-None.ensures
