use Rattle.std.proofs.Common.{◌≡◌, ◌+◌, ◌-◌, drop}
use Rattle.inline_literals.specs.Literals.{domain_size}
use Rattle.inline_literals.proofs.gfm_autolink_literal.domain_size.Given as goal

-- the bytes so far belong to the domain
abbrev pub invariant-loop-i : goal.invariant-loop-i
invariant-loop-i g l = l.i + domain_size (g.T.Tables.punctuation_of l.fn.tables) (l.fn.size - l.i) (drop l.i l.fn.text)
    ≡ domain_size (g.T.Tables.punctuation_of l.fn.tables) l.fn.size l.fn.text
