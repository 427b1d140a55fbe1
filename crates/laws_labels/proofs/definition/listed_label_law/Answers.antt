use Rattle.laws_labels.proofs.Definitions.{listed_label_law}
use Rattle.laws_labels.proofs.definition.listed_label_law.Goals as goal

pub returns : goal.returns
returns c = listed_label_law
