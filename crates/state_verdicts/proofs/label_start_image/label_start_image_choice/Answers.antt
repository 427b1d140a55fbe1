use Rattle.state_verdicts.proofs.TextChoices.{image_choice}
use Rattle.state_verdicts.proofs.label_start_image.label_start_image_choice.Goals as goal

pub returns : goal.returns
returns g c = image_choice _
