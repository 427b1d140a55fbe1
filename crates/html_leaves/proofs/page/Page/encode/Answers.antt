use Rattle.html_leaves.proofs.Prelude.{output_view}
use Rattle.html_leaves.proofs.Laid.{text_laid}
use Rattle.html_leaves.proofs.page.Page.encode.Goals as goal

pub returns-clause-printed : goal.returns-clause-printed
returns-clause-printed g c = text_laid c.push_encoded.result (output_view c.args.self.now.out) _ _ c.push_encoded.ensures
