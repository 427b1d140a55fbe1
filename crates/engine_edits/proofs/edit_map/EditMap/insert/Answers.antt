use Rattle.std.proofs.Common.{◌∙◌, ap, map}
use Rattle.engine_edits.specs.Edits.{edit_of}
use Rattle.engine_edits.proofs.Places.{inserted}
use Rattle.engine_edits.proofs.edit_map.EditMap.insert.Goals as goal

pub returns-clause-edits : goal.returns-clause-edits
returns-clause-edits g c = ap (map edit_of) c.in_ok-insert.ensures.entries ∙ inserted c.args.index c.args.self.now.edits.entries c.args.edit c.requires
