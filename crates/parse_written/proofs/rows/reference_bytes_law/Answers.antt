use Rattle.parse_written.proofs.RowLeaves.{reference_bytes_law}
use Rattle.parse_written.proofs.rows.reference_bytes_law.Goals as goal

pub returns : goal.returns
returns c = reference_bytes_law
