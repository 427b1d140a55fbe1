use Rattle.laws_escape.proofs.Escaped as escaped
use Rattle.laws_escape.proofs.character_escape.escape_law.Goals as goal

pub returns : goal.returns
returns c = escaped.escape_law
