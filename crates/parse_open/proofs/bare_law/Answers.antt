use Rattle.parse_open.proofs.BareRead.{bare_blocks_read}
use Rattle.parse_open.proofs.bare_law.Goals as goal

pub returns : goal.returns
returns c = bare_blocks_read
