use Rattle.inline_references.proofs.builtin.text_at.Goals as goal
use Rattle.inline_references.proofs.Table.{now_at}

pub returns : goal.returns
returns c = now_at c.args.texts.now c.args.place _ c.requires
