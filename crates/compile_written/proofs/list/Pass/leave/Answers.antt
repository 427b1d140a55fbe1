use Rattle.std.proofs.Common.{◌∷◌, arith}
use Rattle.compile_written.proofs.Prelude.{around, reverse}
use Rattle.compile_written.proofs.OpenLevels.{left_level, left_outer}
use Rattle.compile_written.proofs.list.Pass.leave.Goals as goal

pub returns-then-self-ne0-clause-level : goal.returns-then-self-ne0-clause-level
returns-then-self-ne0-clause-level g c =
    let p = c.args.self.now in
    left_level p.inner.depth (p.inner.level ∷ around (reverse p.outer.items)) (omega (arith, c.if-self-ne0.true))

pub returns-then-self-ne0-clause-outer : goal.returns-then-self-ne0-clause-outer
returns-then-self-ne0-clause-outer g c =
    let p = c.args.self.now in
    left_outer p.inner.depth (p.inner.level ∷ around (reverse p.outer.items)) (omega (arith, c.if-self-ne0.true))
