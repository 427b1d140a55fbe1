-- Nodes in a list of events.
use Rattle.std.specs.Prelude.{◌≡◌, List, [], ◌∷◌, ◌++◌, Option, None, Some}
use Rattle.engine_events.specs.declared.event.Event.{Event}
use Rattle.engine_events.specs.declared.event.Kind.TheVariants.{Exit}
use Rattle.event_grammar.specs.Trees.{Node, Nodes, node_events, events_of, IsNode, AreNodes}

-- an exit comes first, or nothing
abbrev pub IsEnd : List Event → Type 0
IsEnd [] = Unit {0}
IsEnd (e ∷ es) = e.kind ≡ Exit

-- the events are those of these nodes, alone or up to the exit of what they are in
pub record AreWithin (ns : Nodes) (events : List Event) : Type 0 where
  pub nodes : AreNodes ns
  pub back : List Event
  pub ends : IsEnd back
  pub events_are : events ≡ events_of ns ++ back

-- the events begin with this node; without one there are none
abbrev pub StandsFirst : Option Node → List Event → Type 0
StandsFirst None events = events ≡ []
StandsFirst (Some node) events = IsNode node × (back : List Event) × (events ≡ node_events node ++ back)
