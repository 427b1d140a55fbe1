use Rattle.std.proofs.Common.{◌∙◌}
use Rattle.event_grammar.proofs.VoidLaw.{void_law}
use Rattle.event_grammar.proofs.void.is_void.Goals as goal

pub returns : goal.returns
returns c = c.contains.ensures.value ∙ void_law c.args.name
