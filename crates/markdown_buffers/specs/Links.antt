-- What a call for links leaves in the caller's array and buffer.
use Rattle.std.specs.Prelude.{◌≡◌, ◌≤◌, ◌<◌, ◌↔◌, ◌++◌, ℕ, List, length, map, drop, string_bytes}
use Rattle.markdown_options.specs.declared.configuration.ParseOptions.{ParseOptions}
use Rattle.engine_events.specs.declared.event.Event.{Event}
use Rattle.markdown_tables.specs.Builtin.{builtin_tables}
use Rattle.parse_events.specs.Parsed.{AreEventsOf}
use Rattle.markdown_links.specs.Listed.{HasLinks, destinations_of, links_of}
use Rattle.markdown_links.specs.declared.link.Link.{Link}
use Rattle.markdown_links.specs.declared.link.Links.{Links}
use Rattle.markdown_buffers.specs.declared.flat_link.FlatLink.{FlatLink}
use Rattle.markdown_buffers.specs.Events.{OfEvents}
use Rattle.markdown_buffers.specs.FlatLinks.{flat_link}
use Rattle.markdown_buffers.specs.Pages.{HoldsPage}

-- an array begins with links, and goes on as it was
abbrev pub HoldsLinks : List Link → List FlatLink → List FlatLink → Type 0
HoldsLinks links old new = new ≡ map flat_link links ++ drop (length links) old

-- something holds of the links of events, and of their destinations, side by side
pub record OfLinks (text : List ℕ) (P : List Link → List ℕ → Type 0) (events : List Event) : Type 0 where
  pub links : List Link
  pub destinations : List ℕ
  pub listed : HasLinks destinations links (links_of builtin_tables.names text events)
  pub whole : destinations ≡ destinations_of builtin_tables.names text events
  pub holds : P links destinations

-- the links of a text, by options
pub record AreLinksOf {A : Type 0} (options : ParseOptions) (text : List ℕ) (found : Links A) : Type 0 where
  pub events : List Event
  pub are : AreEventsOf builtin_tables options text events
  pub listed : HasLinks (string_bytes found.destinations) found.links.items (links_of builtin_tables.names text events)
  pub whole : string_bytes found.destinations ≡ destinations_of builtin_tables.names text events

-- with the status 0 the array begins with the links and the buffer with their destinations; with any other both are unchanged. With 0 and 1 the number of
-- links and the size of the destinations are stored, otherwise 0
pub record StoresLinks (Meant : ParseOptions → Type 0) (text : List ℕ) (old new : List FlatLink) (count : ℕ) (before after : List ℕ) (size status : ℕ)
    : Type 0 where
  pub ok : status ≡ 0 → OfEvents Meant text (OfLinks text (λ links destinations.
      (count ≡ length links) × HoldsLinks links old new × (size ≡ length destinations) × HoldsPage destinations before after))
  pub unchanged : ¬ (status ≡ 0) → (new ≡ old) × (after ≡ before)
  pub stored : status ≤ 1 → OfEvents Meant text (OfLinks text (λ links destinations. (count ≡ length links) × (size ≡ length destinations)))
  pub room : status ≤ 1 → ((status ≡ 0) ↔ ((count ≤ length old) × (size ≤ length before)))
  pub none : 1 < status → (count ≡ 0) × (size ≡ 0)
