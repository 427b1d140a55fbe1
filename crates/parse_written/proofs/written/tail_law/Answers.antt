use Rattle.parse_written.proofs.Tails.{tail_law}
use Rattle.parse_written.proofs.written.tail_law.Goals as goal

pub returns : goal.returns
returns c = tail_law
