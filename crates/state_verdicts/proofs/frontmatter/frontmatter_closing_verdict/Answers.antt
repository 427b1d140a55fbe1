use Rattle.state_verdicts.proofs.FrontmatterCloses.{frontmatter_closing_verdict}
use Rattle.state_verdicts.proofs.frontmatter.frontmatter_closing_verdict.Goals as goal

pub returns : goal.returns
returns g c = frontmatter_closing_verdict _ _
