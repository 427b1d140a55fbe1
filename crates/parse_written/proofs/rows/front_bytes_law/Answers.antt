use Rattle.parse_written.proofs.Bytes.{front_bytes_law}
use Rattle.parse_written.proofs.rows.front_bytes_law.Goals as goal

pub returns : goal.returns
returns c = front_bytes_law
