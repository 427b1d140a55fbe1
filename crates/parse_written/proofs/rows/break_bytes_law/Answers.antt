use Rattle.parse_written.proofs.RowLeaves.{break_bytes_law}
use Rattle.parse_written.proofs.rows.break_bytes_law.Goals as goal

pub returns : goal.returns
returns c = break_bytes_law
