use Rattle.state_verdicts.proofs.TrailingReads.{earlier_verdict, trailing_verdict}
use Rattle.state_verdicts.proofs.hard_break_trailing.hard_break_trailing_verdict.Goals as goal

pub returns : goal.returns
returns c = record { end = trailing_verdict; before = earlier_verdict }
