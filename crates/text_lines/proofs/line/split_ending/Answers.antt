use lib.Utf8.{encode}
use Rattle.std.proofs.Common.{refl}
use Rattle.text_lines.proofs.line.split_ending.Goals as goal

pub returns-in-None : goal.returns-in-None
unfolding lib.Utf8.encode
returns-in-None c = (refl, c.in_default.ensures.cases, c.in-None.ensures.cases)
