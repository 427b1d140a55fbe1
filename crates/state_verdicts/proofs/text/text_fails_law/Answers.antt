use Rattle.state_verdicts.proofs.TextFails.{text_fails_law}
use Rattle.state_verdicts.proofs.text.text_fails_law.Goals as goal

pub returns : goal.returns
returns g c = text_fails_law _
