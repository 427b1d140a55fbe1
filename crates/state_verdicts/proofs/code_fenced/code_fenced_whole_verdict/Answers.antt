use Rattle.state_verdicts.proofs.CodeFencedWhole.{code_fenced_whole_verdict}
use Rattle.state_verdicts.proofs.code_fenced.code_fenced_whole_verdict.Goals as goal

pub returns : goal.returns
returns g c = code_fenced_whole_verdict _
