-- Data that is one draft where it is one text.
use Rattle.std.specs.Prelude.{◌≡◌, Bool, true, false, not, ◌&&◌, List, [], ◌∷◌}
use Rattle.engine_events.specs.Names.{same_name}
use Rattle.engine_events.specs.declared.event.Event.{Event}
use Rattle.engine_events.specs.declared.event.Name.{Name}
use Rattle.engine_events.specs.declared.event.Name.TheVariants as n
use Rattle.event_tokens.specs.Shape.{is_cut, no_neighbours}
use Rattle.parse_output.specs.declared.draft.Draft.{Draft}
use Rattle.parse_output.specs.declared.draft.Draft.TheVariants as draft

-- whether a draft is data
abbrev pub is_data : Draft → Bool
is_data (draft.Enter name) = false
is_data (draft.Exit name) = false
is_data (draft.Void name owed index) = same_name name n.Data

abbrev pub both_data : Draft → Draft → Bool
both_data d e = is_data d && is_data e

-- no draft of data is directly after another
abbrev pub DraftsAreWhole : List Draft → Type 0
DraftsAreWhole ds = no_neighbours both_data ds ≡ true

-- whether the last draft is data
abbrev pub ends_in_data : List Draft → Bool
ends_in_data [] = false
ends_in_data (d ∷ []) = is_data d
ends_in_data (d ∷ e ∷ ds) = ends_in_data (e ∷ ds)

-- whether what holds no other may be next by a name: data isn't after data
abbrev pub may_be_next : List Draft → Name → Bool
may_be_next ds name = not (ends_in_data ds && same_name name n.Data)

-- no data is directly followed by data
abbrev pub DataIsWhole : List Event → Type 0
DataIsWhole events = no_neighbours is_cut events ≡ true
