-- Spaces, tabs and line endings that states read (CommonMark 2.1 and 2.2).
use Rattle.std.specs.Prelude.{ℕ, Bool, true, false, nat_lt, List, [], ◌∷◌, None}
use Rattle.definition_text.specs.Columns.{indent}
use Rattle.engine_events.specs.Events.{event}
use Rattle.engine_events.specs.declared.event.Event.{Event}
use Rattle.engine_events.specs.declared.event.Kind.TheVariants.{Enter, Exit}
use Rattle.engine_events.specs.declared.event.Name.TheVariants as names
use Rattle.engine_events.specs.declared.place.Point.{Point}

-- the events of spaces and tabs from a place to another, if there are any
abbrev pub white_if : Bool → Point → Point → List Event
white_if true p end = event Enter names.SpaceOrTab p None ∷ event Exit names.SpaceOrTab end None ∷ []
white_if false p end = []

-- the same of the spaces and tabs at the front of codes
abbrev pub white_events : List ℕ → Point → Point → List Event
white_events codes p end = white_if (nat_lt 0 (indent codes)) p end

-- the events of a line ending from a place to the next line
abbrev pub ending_events : Point → Point → List Event
ending_events p q = event Enter names.LineEnding p None ∷ event Exit names.LineEnding q None ∷ []
