use Rattle.state_verdicts.proofs.ClosingReads.{closing_fence_verdict}
use Rattle.state_verdicts.proofs.raw_flow.closing_fence_verdict.Goals as goal

pub returns : goal.returns
returns g c = closing_fence_verdict _
