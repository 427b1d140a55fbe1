use Rattle.state_verdicts.proofs.TextChoices.{escape_choice}
use Rattle.state_verdicts.proofs.character_escape.character_escape_choice.Goals as goal

pub returns : goal.returns
returns g c = escape_choice _
