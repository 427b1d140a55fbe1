use Rattle.html_leaves.proofs.Prelude.{output_view}
use Rattle.html_leaves.proofs.Laid.{text_laid}
use Rattle.html_leaves.proofs.page.Page.html_lines.Goals as goal

pub returns-clause-printed : goal.returns-clause-printed
returns-clause-printed g c = text_laid c.push_html_lines.result (output_view c.args.self.now.out) _ _ c.push_html_lines.ensures
