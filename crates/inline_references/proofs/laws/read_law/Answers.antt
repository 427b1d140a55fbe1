use Rattle.inline_references.proofs.Written.{read_is_written}
use Rattle.inline_references.proofs.laws.read_law.Goals as goal

pub returns : goal.returns
returns c = read_is_written
