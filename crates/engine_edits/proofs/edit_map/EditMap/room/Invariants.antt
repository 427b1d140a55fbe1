use Rattle.std.proofs.Common.{◌≡◌, ◌+◌, map}
use Rattle.engine_edits.specs.Edits.{edits_of, edit_of}
use Rattle.engine_edits.specs.Replacement.{arrivals}
use Rattle.engine_edits.proofs.edit_map.EditMap.room.Given as goal

abbrev pub invariant-edits : goal.invariant-edits
invariant-edits g l = l.room + arrivals (map edit_of l.edit-iterator) ≡ l.count + arrivals (edits_of l.self)
