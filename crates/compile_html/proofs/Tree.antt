-- The tree of the events of nodes is these nodes.
use Rattle.std.proofs.Common.{◌≡◌, List, [], ◌∷◌, ◌++◌, refl, sym, ap, ◌∙◌, append_assoc, append-nil}
use Rattle.compile_html.proofs.Prelude.{AreNodes, Around, Cons, Event, events_of, fold, Nil, Node, Nodes, tree}
use Rattle.engine_events.specs.declared.event.Kind.{Kind}
use Rattle.event_grammar.specs.Trees.{followed_by, Part, Growth, growth, grown, closed}

-- nodes, and then others
abbrev joined : Nodes → Nodes → Nodes
joined Nil ns = ns
joined (Cons n ms) ns = Cons n (joined ms ns)

joined_next : (ms : Nodes) (n : Node) (ns : Nodes) → joined (followed_by ms n) ns ≡ joined ms (Cons n ns)
joined_next Nil n ns = refl
joined_next (Cons m ms) n ns = ap (Cons m) (joined_next ms n ns)

joined_none : (ms : Nodes) → joined ms Nil ≡ ms
joined_none Nil = refl
joined_none (Cons m ms) = ap (Cons m) (joined_none ms)

abbrev grown_by : Growth → List Event → Growth
grown_by g events = fold (λ g (e : Event). grown g e.kind e) g events

grown_over : (ns : Nodes) → AreNodes ns → (before : Nodes) (outer : List Part) (es : List Event)
    → grown_by (growth before outer) (events_of ns ++ es) ≡ grown_by (growth (joined before ns) outer) es
grown_over Nil k before outer es = ap (λ (ms : Nodes). grown_by (growth ms outer) es) (sym (joined_none before))
grown_over (Cons (Around enter kids exit) ns) k before outer es =
    let rest = events_of ns ++ es in
    let part : Part = record { enter = enter; before = before } in
    let split : ((events_of kids ++ exit ∷ []) ++ events_of ns) ++ es ≡ events_of kids ++ exit ∷ (events_of ns ++ es) = simp append_assoc in
    ap (λ (l : List Event). grown_by (growth before outer) (enter ∷ l)) split
    ∙ ap (λ (z : Kind). grown_by (grown (growth before outer) z enter) (events_of kids ++ exit ∷ rest)) k.0.0
    ∙ grown_over kids k.0.3 Nil (part ∷ outer) (exit ∷ rest)
    ∙ ap (λ (z : Kind). grown_by (grown (growth kids (part ∷ outer)) z exit) rest) k.0.1
    ∙ grown_over ns k.1 (followed_by before (Around enter kids exit)) outer es
    ∙ ap (λ (ms : Nodes). grown_by (growth ms outer) es) (joined_next before (Around enter kids exit) ns)

pub tree_is : (ns : Nodes) → AreNodes ns → tree (events_of ns) ≡ ns
tree_is ns k =
    ap tree (sym (append-nil (events_of ns)))
    ∙ ap (λ (g : Growth). g.kids) (grown_over ns k Nil [] [])
