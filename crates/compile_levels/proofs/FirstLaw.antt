-- The first of siblings, by the tree.
use Rattle.std.proofs.Common.{◌≡◌, List, length, subst, refl, ap, ◌<◌, arith}
use Rattle.engine_events.specs.declared.event.Event.{Event}
use Rattle.event_grammar.specs.Trees.{Nodes, Around, Nil, Cons, events_of, AreNodes}
use Rattle.compile_levels.specs.Children.{IsFirstOf}
use Rattle.compile_levels.specs.Siblings.{IsFirst}
use Rattle.compile_levels.specs.declared.node.Node.{Node}
use Rattle.compile_levels.proofs.SiblingLaw.{reads_law}

first_of : (ns : Nodes) → AreNodes ns → (node : Node) (after : List Event) → IsFirst (events_of ns) node after → IsFirstOf ns node after
first_of Nil k node after h = absurd h
first_of (Cons (Around enter kids exit) ns) k node after h =
    let l = reads_law enter kids exit ns node after k.0.1 k.0.3 h in
    record { first = Around enter kids exit; others = ns; nodes = refl; reads = l.0; rest = l.1 }

-- the first of the events of nodes is the first node
pub first_law : (ns : Nodes) → AreNodes ns → (events : List Event) → events ≡ events_of ns → (node : Node) (after : List Event) → IsFirst events node after
    → IsFirstOf ns node after
first_law ns k events e node after h =
    let P : List Event → Type 0 = λ es. IsFirst es node after in
    first_of ns k node after (subst P e h)

-- without events there are no nodes
pub none_law : (ns : Nodes) (events : List Event) → events ≡ events_of ns → length events < 1 → ns ≡ Nil
none_law Nil events e h = refl
none_law (Cons (Around enter kids exit) ns) events e h = absurd (omega (arith, h, ap length e))
