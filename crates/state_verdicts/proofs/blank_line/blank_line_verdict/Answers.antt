use Rattle.state_verdicts.proofs.BlankLineReads.{blank_line_verdict}
use Rattle.state_verdicts.proofs.blank_line.blank_line_verdict.Goals as goal

pub returns : goal.returns
returns g c = blank_line_verdict _
