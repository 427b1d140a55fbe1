use Rattle.parse_open.proofs.BytewiseEvents.{events_spell_the_same}
use Rattle.parse_open.proofs.bytewise.events_law.Goals as goal

pub returns : goal.returns
returns c = events_spell_the_same
