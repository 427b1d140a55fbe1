use Rattle.parse_open.proofs.BytewiseLabels.{labels_are_the_same}
use Rattle.parse_open.proofs.bytewise.labels_law.Goals as goal

pub returns : goal.returns
returns c = labels_are_the_same
