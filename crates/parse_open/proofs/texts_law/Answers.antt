use Rattle.parse_open.proofs.Texts.{texts_are_spelled}
use Rattle.parse_open.proofs.texts_law.Goals as goal

pub returns : goal.returns
returns c = texts_are_spelled
