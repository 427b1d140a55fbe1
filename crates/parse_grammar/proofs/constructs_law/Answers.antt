use Rattle.parse_grammar.proofs.ConstructDocuments.{documents_have_nothing_off}
use Rattle.parse_grammar.proofs.constructs_law.Goals as goal

pub returns : goal.returns
returns c = documents_have_nothing_off
