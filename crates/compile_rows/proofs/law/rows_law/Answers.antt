use Rattle.compile_rows.proofs.RowsLaw.{rows_law}
use Rattle.compile_rows.proofs.law.rows_law.Goals as goal

pub returns : goal.returns
returns c = rows_law
