use Rattle.state_verdicts.proofs.FlowChoiceReads.{flow_white_choice}
use Rattle.state_verdicts.proofs.flow.flow_white_choice.Goals as goal

pub returns : goal.returns
returns g c = flow_white_choice _
