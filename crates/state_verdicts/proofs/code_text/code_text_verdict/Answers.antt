use Rattle.state_verdicts.proofs.CodeReads.{code_text}
use Rattle.state_verdicts.proofs.code_text.code_text_verdict.Goals as goal

pub returns : goal.returns
returns g c = code_text _
