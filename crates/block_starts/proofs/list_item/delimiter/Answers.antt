use Rattle.std.proofs.Common.{sym}
use Rattle.block_starts.specs.View.{rest_of}
use Rattle.block_starts.proofs.MarkLemmas.{delimiter_none}
use Rattle.block_starts.proofs.list_item.delimiter.Goals as goal

pub returns-in_default : goal.returns-in_default
returns-in_default c = sym (delimiter_none c.args.number c.args.digits (rest_of c.args.rest) c.in_default.ensures)
