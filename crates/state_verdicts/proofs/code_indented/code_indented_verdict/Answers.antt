use Rattle.state_verdicts.proofs.CodeIndentedReads.{code_indented_verdict}
use Rattle.state_verdicts.proofs.code_indented.code_indented_verdict.Goals as goal

pub returns : goal.returns
returns g c = code_indented_verdict _
