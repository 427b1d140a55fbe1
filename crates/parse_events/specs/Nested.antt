-- Events that are well nested.
use Rattle.std.specs.Prelude.{◌≡◌, List}
use Rattle.engine_events.specs.declared.event.Event.{Event}
use Rattle.event_grammar.specs.Trees.{Nodes, AreNodes, events_of}

-- the events of a tree: each enter has its exit, of the same name, and what is entered between them is exited there
pub record IsNested (events : List Event) : Type 0 where
  pub nodes : Nodes
  pub each : events ≡ events_of nodes
  pub named : AreNodes nodes
