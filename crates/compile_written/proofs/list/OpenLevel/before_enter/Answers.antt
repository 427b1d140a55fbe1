use Rattle.std.proofs.Common.{◌∷◌, arith}
use Rattle.compile_written.proofs.OpenLevels.{none_enter}
use Rattle.compile_written.proofs.list.OpenLevel.before_enter.Goals as goal

pub returns-then-self-ne0 : goal.returns-then-self-ne0
returns-then-self-ne0 c = λ ls.
    none_enter c.args.name c.args.at c.args.apart c.args.self.depth (c.args.self.level ∷ ls) (omega (arith, c.if-self-ne0.true))
