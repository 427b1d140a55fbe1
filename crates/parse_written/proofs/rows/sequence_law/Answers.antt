use Rattle.parse_written.proofs.Marks.{sequence_law}
use Rattle.parse_written.proofs.rows.sequence_law.Goals as goal

pub returns : goal.returns
returns c = sequence_law
