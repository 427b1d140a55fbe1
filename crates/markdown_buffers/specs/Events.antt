-- What a call for events leaves in the caller's array.
use Rattle.std.specs.Prelude.{◌≡◌, ◌≤◌, ◌<◌, ◌↔◌, ◌++◌, ℕ, List, length, map, drop}
use Rattle.markdown_options.specs.declared.configuration.ParseOptions.{ParseOptions}
use Rattle.engine_events.specs.declared.event.Event.{Event}
use Rattle.markdown_tables.specs.Builtin.{builtin_tables}
use Rattle.parse_events.specs.Parsed.{AreEventsOf}
use Rattle.markdown_buffers.specs.declared.flat_event.FlatEvent.{FlatEvent}
use Rattle.markdown_buffers.specs.FlatEvents.{flat_event}

-- an array begins with events, and goes on as it was
abbrev pub HoldsEvents : List Event → List FlatEvent → List FlatEvent → Type 0
HoldsEvents events old new = new ≡ map flat_event events ++ drop (length events) old

-- something holds of events of a text, as `parse` promises them by the options that are meant
pub record OfEvents (Meant : ParseOptions → Type 0) (text : List ℕ) (P : List Event → Type 0) : Type 0 where
  pub options : ParseOptions
  pub meant : Meant options
  pub events : List Event
  pub are : AreEventsOf builtin_tables options text events
  pub holds : P events

-- with the status 0 the array begins with the events; with any other it is unchanged. With 0 and 1 their number is stored, otherwise 0
pub record StoresEvents (Meant : ParseOptions → Type 0) (text : List ℕ) (old new : List FlatEvent) (count status : ℕ) : Type 0 where
  pub ok : status ≡ 0 → OfEvents Meant text (λ events. (count ≡ length events) × HoldsEvents events old new)
  pub unchanged : ¬ (status ≡ 0) → new ≡ old
  pub stored : status ≤ 1 → OfEvents Meant text (λ events. count ≡ length events)
  pub room : status ≤ 1 → ((status ≡ 0) ↔ (count ≤ length old))
  pub none : 1 < status → count ≡ 0
