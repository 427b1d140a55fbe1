use Rattle.state_verdicts.proofs.RawFlowLines.{raw_flow_lines_verdict}
use Rattle.state_verdicts.proofs.raw_flow.raw_flow_lines_verdict.Goals as goal

pub returns : goal.returns
returns g c = raw_flow_lines_verdict _
