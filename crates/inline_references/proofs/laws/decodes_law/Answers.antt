use Rattle.inline_references.proofs.Alone.{decodes_decoded}
use Rattle.inline_references.proofs.laws.decodes_law.Goals as goal

pub returns : goal.returns
returns c = decodes_decoded
