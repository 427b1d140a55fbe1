use Rattle.state_verdicts.proofs.TextChoices.{backslash_choice}
use Rattle.state_verdicts.proofs.text.text_backslash_choice.Goals as goal

pub returns : goal.returns
returns g c = backslash_choice _
