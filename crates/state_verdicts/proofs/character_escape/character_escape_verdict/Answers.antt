use Rattle.state_verdicts.proofs.EscapeReads.{escape_verdict}
use Rattle.state_verdicts.proofs.character_escape.character_escape_verdict.Goals as goal

pub returns : goal.returns
returns g c = escape_verdict _
