use Rattle.html_listed.proofs.Unmarked.{unmarked_law}
use Rattle.html_listed.proofs.laws.unmarked_law.Goals as goal

pub returns : goal.returns
returns c = unmarked_law
