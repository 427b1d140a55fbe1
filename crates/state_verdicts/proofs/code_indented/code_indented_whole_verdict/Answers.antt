use Rattle.state_verdicts.proofs.CodeIndentedWhole.{code_indented_whole_verdict}
use Rattle.state_verdicts.proofs.code_indented.code_indented_whole_verdict.Goals as goal

pub returns : goal.returns
returns g c = code_indented_whole_verdict _
