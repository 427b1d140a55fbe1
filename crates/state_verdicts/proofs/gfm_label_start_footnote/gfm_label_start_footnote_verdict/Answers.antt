use Rattle.state_verdicts.proofs.LabelStartReads.{call_verdict}
use Rattle.state_verdicts.proofs.gfm_label_start_footnote.gfm_label_start_footnote_verdict.Goals as goal

pub returns : goal.returns
returns g c = call_verdict _
