use Rattle.std.proofs.Common.{map}
use Rattle.engine_edits.specs.Edits.{edits_of, edit_of}
use Rattle.engine_edits.specs.Placing.{Placing}
use Rattle.engine_edits.proofs.edit_map.EditMap.places.Given as goal

abbrev pub invariant-edits : goal.invariant-edits
invariant-edits g l = Placing l.from l.to l.count l.places.items (map edit_of l.at-iterator) (edits_of l.self)
