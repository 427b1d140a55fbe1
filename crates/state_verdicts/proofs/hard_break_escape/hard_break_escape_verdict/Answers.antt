use Rattle.state_verdicts.proofs.BreakReads.{break_verdict}
use Rattle.state_verdicts.proofs.hard_break_escape.hard_break_escape_verdict.Goals as goal

pub returns : goal.returns
returns g c = break_verdict _
