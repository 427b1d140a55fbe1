use Rattle.parse_grammar.proofs.Agree.{documents_agree}
use Rattle.parse_grammar.proofs.cells_law.Goals as goal

pub returns : goal.returns
returns c = documents_agree
