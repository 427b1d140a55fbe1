use Rattle.std.proofs.Common.{sym, arith}
use Rattle.inline_literals.proofs.gfm_autolink_literal.size_at.Goals as goal

pub returns-in-Err-clause-read : goal.returns-in-Err-clause-read
returns-in-Err-clause-read g c = sym (c.in-Err.ensures.vain 0 (omega arith))
