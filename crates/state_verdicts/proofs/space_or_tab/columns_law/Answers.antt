use Rattle.state_verdicts.proofs.ColumnReads.{columns_law}
use Rattle.state_verdicts.proofs.space_or_tab.columns_law.Goals as goal

pub returns : goal.returns
returns c = columns_law
