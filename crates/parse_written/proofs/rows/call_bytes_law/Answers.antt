use Rattle.parse_written.proofs.Marks.{call_bytes_law}
use Rattle.parse_written.proofs.rows.call_bytes_law.Goals as goal

pub returns : goal.returns
returns c = call_bytes_law
