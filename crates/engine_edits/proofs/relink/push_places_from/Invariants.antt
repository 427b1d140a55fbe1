use Rattle.std.proofs.Common.{◌≡◌, ◌++◌}
use Rattle.engine_edits.specs.Replacement.{rising}
use Rattle.engine_edits.proofs.relink.push_places_from.Given as goal

abbrev pub invariant-loop-offset : goal.invariant-loop-offset
invariant-loop-offset g l = l.places.items ≡ l.fn.places.items ++ rising l.first l.offset
