use Rattle.state_verdicts.proofs.HeadingAtxText.{heading_atx_text_verdict}
use Rattle.state_verdicts.proofs.heading_atx.heading_atx_text_verdict.Goals as goal

pub returns : goal.returns
returns c = heading_atx_text_verdict
