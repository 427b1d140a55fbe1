use Rattle.parse_written.proofs.LaidRows.{rows_law}
use Rattle.parse_written.proofs.rows.rows_law.Goals as goal

pub returns : goal.returns
returns c = rows_law
