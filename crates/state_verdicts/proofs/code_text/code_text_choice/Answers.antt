use Rattle.state_verdicts.proofs.TextChoices.{code_choice}
use Rattle.state_verdicts.proofs.code_text.code_text_choice.Goals as goal

pub returns : goal.returns
returns g c = code_choice _
