use Rattle.state_verdicts.proofs.LabelStartReads.{image_verdict}
use Rattle.state_verdicts.proofs.label_start_image.label_start_image_verdict.Goals as goal

pub returns : goal.returns
returns g c = image_verdict _
