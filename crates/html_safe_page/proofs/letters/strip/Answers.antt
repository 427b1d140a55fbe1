use Rattle.html_safe_page.proofs.Places.{strip_is}
use Rattle.html_safe_page.proofs.letters.strip.Goals as goal

pub returns : goal.returns
returns c = strip_is c.args.prefix.now c.args.bytes.now c.strip_prefix.result c.strip_prefix.ensures.cases
