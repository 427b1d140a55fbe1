use Rattle.state_verdicts.proofs.FrontmatterReads.{frontmatter_verdict}
use Rattle.state_verdicts.proofs.frontmatter.frontmatter_verdict.Goals as goal

pub returns : goal.returns
returns g c = frontmatter_verdict _ _
