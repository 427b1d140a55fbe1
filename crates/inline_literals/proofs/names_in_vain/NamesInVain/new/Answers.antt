use Rattle.std.proofs.Common.{arith}
use Rattle.inline_literals.proofs.names_in_vain.NamesInVain.new.Goals as goal

pub returns : goal.returns
returns c = λ p content left few most within. absurd (omega (arith, few, most))
