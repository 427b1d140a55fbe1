use Rattle.compile_safe_page.proofs.SafeHtml as law
use Rattle.compile_safe_page.proofs.laws.listed_events_law.Goals as goal

pub returns : goal.returns
returns c = law.listed_events_law
