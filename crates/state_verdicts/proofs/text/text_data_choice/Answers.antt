use Rattle.state_verdicts.proofs.TextReads.{data_choice}
use Rattle.state_verdicts.proofs.text.text_data_choice.Goals as goal

pub returns : goal.returns
returns g c = data_choice _
