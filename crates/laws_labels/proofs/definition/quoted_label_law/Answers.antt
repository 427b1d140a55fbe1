use Rattle.laws_labels.proofs.Definitions.{quoted_label_law}
use Rattle.laws_labels.proofs.definition.quoted_label_law.Goals as goal

pub returns : goal.returns
returns c = quoted_label_law
