use Rattle.std.proofs.Common.{arith}
use Rattle.engine_text.proofs.Starts.{last_start}
use Rattle.engine_text.proofs.location.start_of.Goals as goal

pub returns-else-line-eq0 : goal.returns-else-line-eq0
returns-else-line-eq0 c = last_start c.args.starts.now c.args.line (omega arith) c.requires
