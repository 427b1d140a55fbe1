use Rattle.state_verdicts.proofs.TextChoices.{break_choice}
use Rattle.state_verdicts.proofs.hard_break_escape.hard_break_escape_choice.Goals as goal

pub returns : goal.returns
returns g c = break_choice _
