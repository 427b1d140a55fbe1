use Rattle.state_verdicts.proofs.TextChoices.{reference_choice}
use Rattle.state_verdicts.proofs.character_reference.character_reference_choice.Goals as goal

pub returns : goal.returns
returns g c = reference_choice _
