use Rattle.std.proofs.Common.{◌≡◌, ◌≤◌, length}
use Rattle.event_grammar.specs.Trees.{Nodes, AreNodes, events_of}
use Rattle.compile_levels.proofs.ChildLaw.{Passes}
use Rattle.compile_levels.proofs.node.child.Given as goal

abbrev pub invariant-loop-node : goal.invariant-loop-node
invariant-loop-node l =
    record {
      shorter : length l.rest ≤ length l.events;
      passes : (ns : Nodes) → AreNodes ns → l.events ≡ events_of ns → Passes l.name l.events ns l.rest;
    }

abbrev pub decreases-loop-node : goal.decreases-loop-node
decreases-loop-node l = length l.rest
