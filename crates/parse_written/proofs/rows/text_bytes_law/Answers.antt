use Rattle.parse_written.proofs.Bytes.{text_bytes_law}
use Rattle.parse_written.proofs.rows.text_bytes_law.Goals as goal

pub returns : goal.returns
returns c = text_bytes_law
