use Rattle.state_verdicts.proofs.AreCodes.{are_codes}
use Rattle.state_verdicts.proofs.TextSees.{tab_codes, text_codes}
use Rattle.state_verdicts.proofs.text_codes.text_codes_law.Goals as goal

pub returns : goal.returns
returns c = record { text = text_codes; tab = tab_codes; codes = are_codes }
