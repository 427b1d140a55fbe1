use Rattle.parse_open.proofs.Page.{pages_are_spelled}
use Rattle.parse_open.proofs.pages_law.Goals as goal

pub returns : goal.returns
returns c = pages_are_spelled
