use Rattle.parse_open.proofs.BytewiseBlocks.{pages_spell_the_same}
use Rattle.parse_open.proofs.bytewise.pages_law.Goals as goal

pub returns : goal.returns
returns c = pages_spell_the_same
