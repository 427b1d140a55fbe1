use Rattle.parse_grammar.proofs.LabelLeaves.{leaves_lead_on}
use Rattle.parse_grammar.proofs.leaves_law.Goals as goal

pub returns : goal.returns
returns c = leaves_lead_on
