use Rattle.state_verdicts.proofs.HeadingSetextReads.{heading_setext_verdict}
use Rattle.state_verdicts.proofs.heading_setext.heading_setext_verdict.Goals as goal

pub returns : goal.returns
returns g c = heading_setext_verdict _
