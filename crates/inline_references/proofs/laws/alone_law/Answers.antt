use Rattle.inline_references.proofs.Alone.{decodes_alone}
use Rattle.inline_references.proofs.laws.alone_law.Goals as goal

pub returns : goal.returns
returns c = decodes_alone
