use Rattle.html_safe_page.proofs.Closing.{closed}
use Rattle.html_safe_page.proofs.page.closure_law.Goals as goal

pub returns : goal.returns
returns c = closed
