use Rattle.parse_written.proofs.Raw.{raw_bytes_law}
use Rattle.parse_written.proofs.rows.raw_bytes_law.Goals as goal

pub returns : goal.returns
returns c = raw_bytes_law
