use Rattle.parse_open.proofs.LineCounts.{lines_are_counted}
use Rattle.parse_open.proofs.lines_law.Goals as goal

pub returns : goal.returns
returns c = lines_are_counted
