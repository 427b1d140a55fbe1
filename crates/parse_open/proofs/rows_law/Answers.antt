use Rattle.parse_open.proofs.Rows.{rows_lead}
use Rattle.parse_open.proofs.rows_law.Goals as goal

pub returns : goal.returns
returns c = rows_lead
