use Rattle.state_verdicts.proofs.FrontmatterWhole.{frontmatter_whole_verdict}
use Rattle.state_verdicts.proofs.frontmatter.frontmatter_whole_verdict.Goals as goal

pub returns : goal.returns
returns g c = frontmatter_whole_verdict _ _
