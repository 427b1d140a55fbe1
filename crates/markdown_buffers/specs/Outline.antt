-- What a call for headings leaves in the caller's array and buffer.
use Rattle.std.specs.Prelude.{◌≡◌, ◌≤◌, ◌<◌, ◌↔◌, ◌++◌, ℕ, List, length, map, drop, string_bytes}
use Rattle.markdown_options.specs.declared.configuration.ParseOptions.{ParseOptions}
use Rattle.engine_events.specs.declared.event.Event.{Event}
use Rattle.markdown_tables.specs.Builtin.{builtin_tables}
use Rattle.parse_events.specs.Parsed.{AreEventsOf}
use Rattle.markdown_outline.specs.Listed.{HasHeadings, outline_of}
use Rattle.markdown_outline.specs.declared.heading.Heading.{Heading}
use Rattle.markdown_outline.specs.declared.heading.Outline.{Outline}
use Rattle.markdown_buffers.specs.declared.flat_heading.FlatHeading.{FlatHeading}
use Rattle.markdown_buffers.specs.Events.{OfEvents}
use Rattle.markdown_buffers.specs.FlatHeadings.{flat_heading}
use Rattle.markdown_buffers.specs.Pages.{HoldsPage}

-- an array begins with headings, and goes on as it was
abbrev pub HoldsHeadings : List Heading → List FlatHeading → List FlatHeading → Type 0
HoldsHeadings headings old new = new ≡ map flat_heading headings ++ drop (length headings) old

-- something holds of the headings of events, and of their texts and slugs
pub record OfHeadings (text : List ℕ) (P : List Heading → List ℕ → Type 0) (events : List Event) : Type 0 where
  pub headings : List Heading
  pub texts : List ℕ
  pub listed : HasHeadings texts headings (outline_of builtin_tables.names text events)
  pub holds : P headings texts

-- the headings of a text, by options
pub record IsOutlineOf {A : Type 0} (options : ParseOptions) (text : List ℕ) (found : Outline A) : Type 0 where
  pub events : List Event
  pub are : AreEventsOf builtin_tables options text events
  pub listed : HasHeadings (string_bytes found.texts) found.headings.items (outline_of builtin_tables.names text events)

-- with the status 0 the array begins with the headings and the buffer with their texts and slugs; with any other both are unchanged. With 0 and 1 the number
-- of headings and the size of their texts and slugs are stored, otherwise 0
pub record StoresOutline (Meant : ParseOptions → Type 0) (text : List ℕ) (old new : List FlatHeading) (count : ℕ) (before after : List ℕ) (size status : ℕ)
    : Type 0 where
  pub ok : status ≡ 0 → OfEvents Meant text (OfHeadings text (λ headings texts.
      (count ≡ length headings) × HoldsHeadings headings old new × (size ≡ length texts) × HoldsPage texts before after))
  pub unchanged : ¬ (status ≡ 0) → (new ≡ old) × (after ≡ before)
  pub stored : status ≤ 1 → OfEvents Meant text (OfHeadings text (λ headings texts. (count ≡ length headings) × (size ≡ length texts)))
  pub room : status ≤ 1 → ((status ≡ 0) ↔ ((count ≤ length old) × (size ≤ length before)))
  pub none : 1 < status → (count ≡ 0) × (size ≡ 0)
