use Rattle.state_verdicts.proofs.TextBlanks.{text_blank}
use Rattle.state_verdicts.proofs.shown_bytes.text_blank_law.Goals as goal

pub returns : goal.returns
returns c = text_blank
