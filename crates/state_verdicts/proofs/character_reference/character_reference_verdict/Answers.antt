use Rattle.state_verdicts.proofs.ReferenceReads.{reference_verdict}
use Rattle.state_verdicts.proofs.character_reference.character_reference_verdict.Goals as goal

pub returns : goal.returns
returns g c = reference_verdict _
