use Rattle.inline_text.proofs.LiteralFronts.{start_at}
use Rattle.inline_text.proofs.plain.first_start.Goals as goal

pub returns : goal.returns
returns c = start_at c.args.has_literals c.args.has_marks c.args.bytes.now c.type_inv.bytes _ c.first_stop.ensures
