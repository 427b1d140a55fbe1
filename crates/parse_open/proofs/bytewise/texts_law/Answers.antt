use Rattle.parse_open.proofs.BytewiseTexts.{texts_spell_the_same}
use Rattle.parse_open.proofs.bytewise.texts_law.Goals as goal

pub returns : goal.returns
returns c = texts_spell_the_same
