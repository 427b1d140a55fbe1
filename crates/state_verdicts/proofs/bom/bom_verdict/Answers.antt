use Rattle.state_verdicts.proofs.BomReads.{bom_verdict}
use Rattle.state_verdicts.proofs.bom.bom_verdict.Goals as goal

pub returns : goal.returns
returns g c = bom_verdict _ _
