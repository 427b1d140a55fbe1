use Rattle.html_safe_page.proofs.Pages.{one_reading}
use Rattle.html_safe_page.proofs.page.one_reading_law.Goals as goal

pub returns : goal.returns
returns c = one_reading
