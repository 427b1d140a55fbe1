use Rattle.state_verdicts.proofs.FlowChoiceReads.{flow_start_choice}
use Rattle.state_verdicts.proofs.flow.flow_start_choice.Goals as goal

pub returns : goal.returns
returns g c = flow_start_choice _
