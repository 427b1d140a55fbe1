use Rattle.laws_endings.proofs.laws.labels_law.Goals as goal
use Rattle.laws_endings.proofs.Matching.{labels_law}

pub returns : goal.returns
returns c = labels_law
