use Rattle.parse_written.proofs.RowLeaves.{line_bytes_law}
use Rattle.parse_written.proofs.rows.line_bytes_law.Goals as goal

pub returns : goal.returns
returns c = line_bytes_law
