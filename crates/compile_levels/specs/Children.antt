-- Siblings and children that were found among events, by the tree.
use Rattle.std.specs.Prelude.{◌≡◌, List, Some, take}
use Rattle.engine_events.specs.declared.event.Event.{Event}
use Rattle.engine_events.specs.declared.event.Name.{Name}
use Rattle.event_grammar.specs.Trees as tree
use Rattle.event_grammar.specs.Trees.{Nodes, Nil, Cons, events_of}
use Rattle.event_meaning.specs.Children.{child, after_child, before_child}
use Rattle.compile_levels.specs.Siblings.{Reads}
use Rattle.compile_levels.specs.declared.node.Node.{Node}
use Rattle.compile_levels.specs.declared.node.Sibling.{Sibling}

-- an event and those after it are the first of these nodes and the others
pub record IsFirstOf (ns : Nodes) (node : Node) (after : List Event) : Type 0 where
  pub first : tree.Node
  pub others : Nodes
  pub nodes : ns ≡ Cons first others
  pub reads : Reads node first
  pub rest : after ≡ events_of others

-- a child among events is the first of a name among these nodes
pub record IsChildOf (name : Name) (events : List Event) (ns : Nodes) (found : Sibling) : Type 0 where
  pub node : tree.Node
  pub named : child name ns ≡ Some node
  pub reads : Reads found.node node
  pub before : take found.index events ≡ events_of (before_child name ns)
  pub after : found.after.now ≡ events_of (after_child name ns)
