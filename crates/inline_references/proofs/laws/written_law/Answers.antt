use Rattle.inline_references.proofs.Written.{written_is_read}
use Rattle.inline_references.proofs.laws.written_law.Goals as goal

pub returns : goal.returns
returns c = written_is_read
