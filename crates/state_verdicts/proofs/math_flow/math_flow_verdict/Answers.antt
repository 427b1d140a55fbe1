use Rattle.state_verdicts.proofs.MathFlowReads.{math_flow_verdict}
use Rattle.state_verdicts.proofs.math_flow.math_flow_verdict.Goals as goal

pub returns : goal.returns
returns g c = math_flow_verdict _
