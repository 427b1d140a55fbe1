use Rattle.state_verdicts.proofs.TextChoices.{math_choice}
use Rattle.state_verdicts.proofs.math_text.math_text_choice.Goals as goal

pub returns : goal.returns
returns g c = math_choice _
