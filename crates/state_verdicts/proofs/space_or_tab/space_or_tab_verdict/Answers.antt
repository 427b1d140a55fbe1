use Rattle.state_verdicts.proofs.ColumnReads.{space_or_tab_verdict}
use Rattle.state_verdicts.proofs.space_or_tab.space_or_tab_verdict.Goals as goal

pub returns : goal.returns
returns g c = space_or_tab_verdict _
