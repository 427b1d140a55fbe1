use Rattle.state_verdicts.proofs.TextChoices.{call_choice}
use Rattle.state_verdicts.proofs.gfm_label_start_footnote.gfm_label_start_footnote_choice.Goals as goal

pub returns : goal.returns
returns g c = call_choice _
