use Rattle.std.proofs.Common.{◌∙◌, sym}
use Rattle.compile_strings.proofs.HeldLaw.{not_held}
use Rattle.compile_strings.proofs.label_end.Open.note.Goals as goal

pub returns-else-is_held-clause-inner : goal.returns-else-is_held-clause-inner
returns-else-is_held-clause-inner g c = not_held c.args.name c.args.index c.args.self.now.inner (sym c.is_held.ensures ∙ c.if-is_held.false)
