use Rattle.state_verdicts.proofs.HeadingAtxReads.{heading_atx_verdict}
use Rattle.state_verdicts.proofs.heading_atx.heading_atx_verdict.Goals as goal

pub returns : goal.returns
returns g c = heading_atx_verdict _
