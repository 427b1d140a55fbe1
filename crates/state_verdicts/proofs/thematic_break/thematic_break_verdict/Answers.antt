use Rattle.state_verdicts.proofs.ThematicBreakReads.{thematic_break_verdict}
use Rattle.state_verdicts.proofs.thematic_break.thematic_break_verdict.Goals as goal

pub returns : goal.returns
returns g c = thematic_break_verdict _
