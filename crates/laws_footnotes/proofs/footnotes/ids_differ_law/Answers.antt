use Rattle.laws_footnotes.proofs.Ids.{ids_differ_law as ids_differ}
use Rattle.laws_footnotes.proofs.footnotes.ids_differ_law.Goals as goal

pub returns : goal.returns
returns c = ids_differ
