use Rattle.inline_leaves.proofs.HardBreakTrailingLemmas.{is_white_size}
use Rattle.inline_leaves.proofs.space.white_size.Goals as goal

pub returns-clause-codes : goal.returns-clause-codes
returns-clause-codes c = is_white_size c.args.bytes.now c.white_size.result c.white_size.ensures.size
