use Rattle.std.proofs.Common.{map, ◌≤◌}
use Rattle.engine_edits.specs.Edits.{edits_of, edit_of}
use Rattle.engine_edits.specs.Replacement.{IsOrdered}
use Rattle.engine_edits.proofs.edit_map.EditMap.is_ordered.Given as goal

-- the rest decides
abbrev pub invariant-edits : goal.invariant-edits
invariant-edits g l =
    (l.from ≤ l.count)
    × (IsOrdered l.from (map edit_of l.at-iterator) l.count → IsOrdered 0 (edits_of l.self) l.count)
    × (IsOrdered 0 (edits_of l.self) l.count → IsOrdered l.from (map edit_of l.at-iterator) l.count)
