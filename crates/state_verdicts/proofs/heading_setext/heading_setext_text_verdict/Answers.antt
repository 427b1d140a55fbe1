use Rattle.state_verdicts.proofs.HeadingSetextText.{heading_setext_text_verdict}
use Rattle.state_verdicts.proofs.heading_setext.heading_setext_text_verdict.Goals as goal

pub returns : goal.returns
returns c = heading_setext_text_verdict
