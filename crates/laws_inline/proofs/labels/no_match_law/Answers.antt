use Rattle.laws_inline.proofs.labels.no_match_law.Goals as goal
use Rattle.laws_inline.proofs.Matching.{no_label_matches}

pub returns : goal.returns
returns c = no_label_matches
