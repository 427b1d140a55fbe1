-- The checks of task list items (GFM 5.3).
use Rattle.std.specs.Prelude.{Bool, if◌then◌else◌, List, [], ◌∷◌, drop, take}
use Rattle.definition_text.specs.Columns.{Code}
use Rattle.definition_inline.specs.GfmTaskListItem.{check_size}
use Rattle.engine_events.specs.declared.event.Name.{Name}
use Rattle.engine_events.specs.declared.event.Name.TheVariants as n
use Rattle.event_definition.specs.Pieces.{around, join_all, token}
use Rattle.event_definition.specs.Sized.{Sized, sized}

abbrev pub check_name : Bool → Name
check_name done = if done then n.GfmTaskListItemValueChecked else n.GfmTaskListItemValueUnchecked

-- `[x]` or `[ ]`
abbrev pub check_pieces : Bool → List Code → Sized
check_pieces done content =
    sized
    (around n.GfmTaskListItemCheck (join_all (
    token n.GfmTaskListItemMarker (take 1 content) ∷ token (check_name done) (take 1 (drop 1 content))
    ∷ token n.GfmTaskListItemMarker (take 1 (drop 2 content)) ∷ []
    )))
    check_size
