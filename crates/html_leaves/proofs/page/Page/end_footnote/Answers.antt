use Rattle.html_leaves.proofs.Prelude.{[], default_compile_options}
use Rattle.html_leaves.proofs.page.Page.end_footnote.Goals as goal

-- nothing of it depends on the options, nor on the default ending
pub returns-clause-printed : goal.returns-clause-printed
returns-clause-printed g c = c.end_footnote.ensures default_compile_options []
