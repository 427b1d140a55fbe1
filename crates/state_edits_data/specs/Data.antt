-- Data that stands side by side is one.
use Rattle.std.specs.Prelude.{ℕ, zero, suc, ◌+◌, ◌-◌, Bool, false, ◌&&◌, if◌then◌else◌, is_none, List, [], slice_get, Option, None, Some}
use denote.Enum.Bare.{sameb}
use Rattle.engine_events.specs.contracts.event.Kind.{the_type}
use Rattle.engine_events.specs.declared.event.Event.{Event}
use Rattle.engine_events.specs.declared.event.Kind.{Kind}
use Rattle.engine_events.specs.declared.event.Kind.TheVariants.{Enter, Exit}
use Rattle.engine_events.specs.declared.event.Name.TheVariants as names
use Rattle.engine_events.specs.Events.{link_of}
use Rattle.engine_events.specs.Names.{same_name}
use Rattle.engine_edits.specs.Edits.{EditAt, with_edit}

-- data begins, or ends, that isn't a chunk to be read later
abbrev pub is_data : Kind → Option Event → Bool
is_data kind None = false
is_data kind (Some e) = sameb the_type e.kind kind && (same_name e.name names.Data && is_none (link_of e))

-- at an index data ends that began right before, and more begins right after
abbrev pub is_seam : List Event → ℕ → Bool
is_seam events i = is_data Enter (slice_get events (i - 1)) && (is_data Exit (slice_get events i) && is_data Enter (slice_get events (i + 1)))

-- what an index adds to the edits
abbrev pub seam_edit : List Event → ℕ → List EditAt → List EditAt
seam_edit events i edits = if is_seam events i then with_edit false i 2 [] edits else edits

-- the edits that join data, up to an index
unfoldable pub data_edits : List Event → ℕ → List EditAt
data_edits events zero = []
data_edits events (suc i) = seam_edit events i (data_edits events i)
