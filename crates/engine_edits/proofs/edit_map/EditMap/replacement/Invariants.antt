use Rattle.std.proofs.Common.{map}
use Rattle.engine_edits.specs.Edits.{edits_of, edit_of}
use Rattle.engine_edits.specs.Placing.{Replacing}
use Rattle.engine_edits.specs.Replacement.{with_new_links}
use Rattle.engine_edits.proofs.edit_map.EditMap.replacement.Given as goal

abbrev pub invariant-edits : goal.invariant-edits
invariant-edits g l = Replacing l.from l.all.items (map edit_of l.at-iterator) (edits_of l.self) (map (with_new_links l.places) l.events)
