use Rattle.std.proofs.Common.{sym, subst}
use Rattle.block_starts.specs.View.{rest_of}
use Rattle.block_starts.specs.Marks.{NoMark}
use Rattle.block_starts.proofs.MarkLemmas.{quote_none}
use Rattle.block_starts.proofs.block_quote.quote_prefix.Goals as goal

pub returns-in_default : goal.returns-in_default
returns-in_default c = sym (quote_none c.args.on.now (rest_of c.args.rest) (subst NoMark c.split_bare-columns.ensures.rest c.in_default.ensures))
