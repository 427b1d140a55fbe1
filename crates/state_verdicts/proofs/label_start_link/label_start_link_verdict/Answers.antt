use Rattle.state_verdicts.proofs.LabelStartReads.{link_verdict}
use Rattle.state_verdicts.proofs.label_start_link.label_start_link_verdict.Goals as goal

pub returns : goal.returns
returns g c = link_verdict _
