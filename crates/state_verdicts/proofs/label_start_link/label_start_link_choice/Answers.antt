use Rattle.state_verdicts.proofs.TextChoices.{link_choice}
use Rattle.state_verdicts.proofs.label_start_link.label_start_link_choice.Goals as goal

pub returns : goal.returns
returns g c = link_choice _
