use Rattle.inline_references.specs.LawfulRows.{builtin_is_lawful}
use Rattle.inline_references.proofs.laws.builtin_law.Goals as goal

pub returns : goal.returns
returns c = builtin_is_lawful
