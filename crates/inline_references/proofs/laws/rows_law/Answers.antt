use Rattle.inline_references.specs.LawfulRows.{rows_are_lawful}
use Rattle.inline_references.proofs.laws.rows_law.Goals as goal

pub returns : goal.returns
returns c = rows_are_lawful
