-- The tree of events: its enters are enters, and its exits exits.
use Rattle.std.proofs.Common.{◌≡◌, List, [], ◌∷◌, refl}
use Rattle.std.specs.List.{fold}
use Rattle.event_check.proofs.Prelude.{Around, Cons, Event, Kind, Nil, Node, Nodes, tree}
use Rattle.engine_events.specs.declared.event.Kind.TheVariants.{Enter, Exit}
use Rattle.event_grammar.specs.Trees.{followed_by, Part, Growth, growth, grown, closed}

abbrev mutual
  pub HasKinds : Node → Type 0
  HasKinds (Around enter kids exit) = (enter.kind ≡ Enter) × (exit.kind ≡ Exit) × HaveKinds kids

  pub HaveKinds : Nodes → Type 0
  HaveKinds Nil = Unit {0}
  HaveKinds (Cons n ns) = HasKinds n × HaveKinds ns

followed : (ns : Nodes) (node : Node) → HaveKinds ns → HasKinds node → HaveKinds (followed_by ns node)
followed Nil node h k = (k, tt)
followed (Cons n ns) node h k = (h.0, followed ns node h.1 k)

abbrev PartsHave : List Part → Type 0
PartsHave [] = Unit {0}
PartsHave (p ∷ ps) = (p.enter.kind ≡ Enter) × HaveKinds p.before × PartsHave ps

abbrev GrowthHas : Growth → Type 0
GrowthHas g = HaveKinds g.kids × PartsHave g.outer

closes : (kids : Nodes) (parts : List Part) (e : Event) → e.kind ≡ Exit → HaveKinds kids → PartsHave parts → GrowthHas (closed (growth kids parts) e parts)
closes kids [] e k h ps = (h, ps)
closes kids (p ∷ parts) e k h ps = (followed p.before (Around p.enter kids e) ps.1 (ps.0, k, h), ps.2)

grows : (kind : Kind) (g : Growth) (e : Event) → e.kind ≡ kind → GrowthHas g → GrowthHas (grown g kind e)
grows Enter g e k h = (tt, (k, h.0, h.1))
grows Exit g e k h = closes g.kids g.outer e k h.0 h.1

all_have : (es : List Event) (g : Growth) → GrowthHas g → GrowthHas (fold (λ g (e : Event). grown g e.kind e) g es)
all_have [] g h = h
all_have (e ∷ es) g h = all_have es (grown g e.kind e) (grows e.kind g e refl h)

pub tree_kinds : (events : List Event) → HaveKinds (tree events)
tree_kinds events = (all_have events (growth Nil []) (tt, tt)).0
