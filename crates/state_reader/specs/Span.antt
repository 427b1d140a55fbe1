-- Containers, by the lines and events at which they begin and end.
use Rattle.std.specs.Prelude.{ℕ, ◌==◌, if◌then◌else◌, List, slice_get, slice_set, Option, None, Some}
use Rattle.engine_states.specs.declared.container.Container.{Container}
use Rattle.engine_states.specs.declared.container.Container.TheVariants as containers
use Rattle.state_reader.specs.declared.span.Span.{Span}

-- the kind of the container that begins, by the number of what was tried
abbrev pub kind_of : ℕ → Container
kind_of number = if number == 0 then containers.BlockQuote else if number == 1 then containers.ListItem else containers.GfmFootnoteDefinition

-- a container begins at an event, on a line, in another
abbrev pub opened_span : Container → ℕ → ℕ → Option ℕ → Span
opened_span kind start line parent = record { kind = kind; start = start; marker = line; close = line; parent = parent }

abbrev pub closed_one : ℕ → ℕ → List Span → Option Span → List Span
closed_one line index spans None = spans
closed_one line index spans (Some s) = slice_set spans index (record s { close = line })

-- the one at an index isn't open any more at a line
abbrev pub closed_at : ℕ → List Span → ℕ → List Span
closed_at line spans index = closed_one line index spans (slice_get spans index)

abbrev pub marked_one : ℕ → ℕ → List Span → Option Span → List Span
marked_one line index spans None = spans
marked_one line index spans (Some s) = slice_set spans index (record s { marker = line })

-- a line has a marker of the one at an index
abbrev pub marked_at : ℕ → List Span → ℕ → List Span
marked_at line spans index = marked_one line index spans (slice_get spans index)
