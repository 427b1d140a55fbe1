-- Edits of the events that were read, made where they leave whole events.
use Rattle.std.specs.Prelude.{ℕ, Bool, ◌+◌, nat_le, ◌&&◌, if◌then◌else◌, List, [], ◌∷◌, length}
use Rattle.engine_events.specs.declared.event.Event.{Event}
use Rattle.engine_events.specs.declared.place.Point.{Point}
use Rattle.engine_edits.specs.Edits.{EditAt}
use Rattle.engine_edits.specs.Replacement.{events_after}
use Rattle.markdown_engine.specs.Reading.{Config}
use Rattle.state_resolvers.specs.Whole.{is_whole}

-- the ranges that go stand one after another, within a list of so many
unfoldable pub is_ordered : ℕ → List EditAt → ℕ → Bool
is_ordered from [] size = nat_le from size
is_ordered from (e ∷ es) size = nat_le from e.at && is_ordered (e.at + e.remove) es size

-- the events with these edits; as they are, where the edits can't be made or don't leave whole events
unfoldable pub edited_events : List EditAt → Point → List Event → List Event
edited_events edits to events = if is_ordered 0 edits (length events) && is_whole (events_after edits events) to then events_after edits events else events

abbrev pub with_edited_events : {M : Type 0} → List EditAt → Config M → Config M
with_edited_events edits c = record c { events = edited_events edits c.point c.events }
