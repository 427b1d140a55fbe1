use Rattle.state_verdicts.proofs.TextReads.{text_end}
use Rattle.state_verdicts.proofs.text.text_end_verdict.Goals as goal

pub returns : goal.returns
returns g c = text_end _
