use Rattle.parse_grammar.proofs.LeadingDocuments.{documents_lead_on}
use Rattle.parse_grammar.proofs.leading_law.Goals as goal

pub returns : goal.returns
returns c = documents_lead_on
