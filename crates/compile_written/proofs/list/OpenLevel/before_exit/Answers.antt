use Rattle.std.proofs.Common.{◌∷◌, arith}
use Rattle.compile_written.proofs.OpenLevels.{none_exit}
use Rattle.compile_written.proofs.list.OpenLevel.before_exit.Goals as goal

pub returns-then-self-ne0-clause-levels : goal.returns-then-self-ne0-clause-levels
returns-then-self-ne0-clause-levels c = λ ls.
    none_exit c.args.bytes.now c.args.name c.args.at c.args.self.depth (c.args.self.level ∷ ls) (omega (arith, c.if-self-ne0.true))
