use Rattle.state_verdicts.proofs.TextReads.{choice_law}
use Rattle.state_verdicts.proofs.text.choice_law.Goals as goal

pub returns : goal.returns
returns g c = choice_law _
