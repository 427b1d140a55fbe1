use Rattle.state_verdicts.proofs.TextChoiceReads.{text_choice}
use Rattle.state_verdicts.proofs.text.text_first_byte_choice.Goals as goal

pub returns : goal.returns
returns g c = text_choice _
