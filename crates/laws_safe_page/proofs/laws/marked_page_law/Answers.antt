use Rattle.laws_safe_page.proofs.SafeHtml as law
use Rattle.laws_safe_page.proofs.laws.marked_page_law.Goals as goal

pub returns : goal.returns
returns c = law.marked_page_law
