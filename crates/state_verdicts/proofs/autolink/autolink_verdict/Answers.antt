use Rattle.state_verdicts.proofs.AutolinkReads.{autolink_verdict}
use Rattle.state_verdicts.proofs.autolink.autolink_verdict.Goals as goal

pub returns : goal.returns
returns g c = autolink_verdict _
