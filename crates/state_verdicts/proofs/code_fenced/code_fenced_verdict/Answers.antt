use Rattle.state_verdicts.proofs.CodeFencedReads.{code_fenced_verdict}
use Rattle.state_verdicts.proofs.code_fenced.code_fenced_verdict.Goals as goal

pub returns : goal.returns
returns g c = code_fenced_verdict _
