use Rattle.parse_open.proofs.Spread.{spread_blocks_compose}
use Rattle.parse_open.proofs.spread_law.Goals as goal

pub returns : goal.returns
returns c = spread_blocks_compose
