use Rattle.state_verdicts.proofs.CodeReads.{math_text}
use Rattle.state_verdicts.proofs.math_text.math_text_verdict.Goals as goal

pub returns : goal.returns
returns g c = math_text _
