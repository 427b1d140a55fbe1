use Rattle.parse_open.proofs.BytewiseGrammar.{grammar_is_sound}
use Rattle.parse_open.proofs.bytewise.grammar_law.Goals as goal

pub returns : goal.returns
returns c = grammar_is_sound
