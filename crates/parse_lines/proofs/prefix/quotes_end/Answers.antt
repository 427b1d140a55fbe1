use Rattle.std.proofs.Common.{arith}
use Rattle.parse_lines.proofs.Containers.{quotes_before}
use Rattle.parse_lines.proofs.prefix.quotes_end.Goals as goal
use Rattle.parse_lines.proofs.prefix.quotes_end.Goals.{in-Quote, in_default}

pub loop-depth-preserved : goal.loop-depth-preserved
loop-depth-preserved c = (
  omega arith,
  λ h. elim c.match-matches.branch [
    | in-Quote w ↦ let x = w.matches-is in let y = c.if-matches.false in absurd (cc)
    | in_default w ↦ quotes_before c.args.containers.now c.loop-depth.depth c.loop-depth-test.true c.loop-depth.invariant.0
        w.in_default.not-Quote (c.loop-depth.invariant.1 h)
  ],
)
