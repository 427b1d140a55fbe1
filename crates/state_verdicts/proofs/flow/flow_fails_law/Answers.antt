use Rattle.state_verdicts.proofs.FlowFails.{flow_fails_law}
use Rattle.state_verdicts.proofs.flow.flow_fails_law.Goals as goal

pub returns : goal.returns
returns g c = flow_fails_law _
