use Rattle.state_verdicts.proofs.HeadingAtxLines.{heading_atx_line_verdict}
use Rattle.state_verdicts.proofs.heading_atx.heading_atx_line_verdict.Goals as goal

pub returns : goal.returns
returns g c = heading_atx_line_verdict _
