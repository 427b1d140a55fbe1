-- What is open after events.
use Rattle.std.specs.Prelude.{if◌then◌else◌, List, [], ◌∷◌, map}
use Rattle.std.specs.List.{fold}
use Rattle.engine_events.specs.Names.{same_name}
use Rattle.engine_events.specs.declared.event.Kind.{Kind}
use Rattle.engine_events.specs.declared.event.Kind.TheVariants as kind
use Rattle.engine_events.specs.declared.event.Name.{Name}
use Rattle.engine_events.specs.declared.event.Event.{Event}

-- an event by its kind and its name alone
pub data Mark : Type 0 where
  Entered : Name → Mark
  Exited : Name → Mark

abbrev pub mark_as : Kind → Name → Mark
mark_as kind.Enter name = Entered name
mark_as kind.Exit name = Exited name

abbrev pub mark_of : Event → Mark
mark_of e = mark_as e.kind e.name

-- after the exit of a name: it goes with the enter of that name, if that is open and the innermost; otherwise it stays
abbrev pub closed : Name → List Mark → List Mark
closed name [] = Exited name ∷ []
closed name (Exited own ∷ others) = Exited name ∷ Exited own ∷ others
closed name (Entered own ∷ others) = if same_name own name then others else Exited name ∷ Entered own ∷ others

-- after one more event
abbrev pub then_mark : List Mark → Mark → List Mark
then_mark marks (Entered name) = Entered name ∷ marks
then_mark marks (Exited name) = closed name marks

-- the enters and exits of events that have no partner, the last first: without exits, what is open
abbrev pub unmatched : List Event → List Mark
unmatched events = fold then_mark [] (map mark_of events)
