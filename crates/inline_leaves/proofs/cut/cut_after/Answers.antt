use Rattle.inline_leaves.proofs.Codes.{boundary_after_byte, is_after}
use Rattle.inline_leaves.proofs.cut.cut_after.Goals as goal

pub range_from-requires : goal.range_from-requires
range_from-requires c = λ _. boundary_after_byte c.args.content.now c.args.end c.utf8.content c.requires.some c.requires.within c.requires.ascii

pub returns-clause-place : goal.returns-clause-place
returns-clause-place c = is_after c.args.content.now _ c.args.end c.range_from.ensures.value c.requires.some c.requires.within c.requires.cut
