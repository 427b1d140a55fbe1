use Rattle.state_verdicts.proofs.Skips.{skips_once}
use Rattle.state_verdicts.proofs.lines.skips_once_law.Goals as goal

pub returns : goal.returns
returns c = skips_once
