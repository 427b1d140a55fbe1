use lib.Utf8.{encode}
use Rattle.std.proofs.Common.{refl}
use Rattle.text_lines.proofs.line.after_return.Goals as goal

pub returns-in-None : goal.returns-in-None
unfolding lib.Utf8.encode
returns-in-None c = (refl, c.in-None.ensures.cases)
