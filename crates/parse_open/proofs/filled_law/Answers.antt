use Rattle.parse_open.proofs.FilledBytes.{documents_are_filled}
use Rattle.parse_open.proofs.filled_law.Goals as goal

pub returns : goal.returns
returns c = documents_are_filled
