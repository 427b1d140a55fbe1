use Rattle.parse_written.proofs.Bytes.{inline_bytes_law}
use Rattle.parse_written.proofs.rows.inline_bytes_law.Goals as goal

pub returns : goal.returns
returns c = inline_bytes_law
