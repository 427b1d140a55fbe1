use Rattle.state_verdicts.proofs.TextChoices.{autolink_choice}
use Rattle.state_verdicts.proofs.autolink.autolink_choice.Goals as goal

pub returns : goal.returns
returns g c = autolink_choice _
