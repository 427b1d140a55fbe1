-- Events of which each enter has its exit are those of a tree.
use Rattle.std.proofs.Common.{◌≡◌, List, [], ◌∷◌, ◌++◌, Bool, true, false, if◌then◌else◌, refl, sym, ap, subst, ◌∙◌, append_assoc, map}
use Rattle.parse_events.proofs.Prelude.{append-nil, Around, closed, Cons, Entered, Event, fold, Mark, Name, Nil, Node, Nodes, same_name, unmatched}
use denote.Enum.Bare.{same_true}
use Rattle.engine_events.specs.contracts.event.Name.{the_type}
use Rattle.engine_events.specs.declared.event.Kind.{Kind}
use Rattle.engine_events.specs.declared.event.Kind.TheVariants as kind
use Rattle.event_grammar.specs.Trees.{AreNodes, IsNode, events_of, followed_by, node_events}
use Rattle.parse_output.specs.Open.{Exited, mark_as, mark_of, then_mark}
use Rattle.parse_events.specs.Nested.{IsNested}

-- ---- one node more

events_followed : (ns : Nodes) (n : Node) → events_of (followed_by ns n) ≡ events_of ns ++ node_events n
events_followed Nil n = append-nil (node_events n)
events_followed (Cons m ns) n =
    ap (λ es. node_events m ++ es) (events_followed ns n) ∙ sym (append_assoc (node_events m) (events_of ns) (node_events n))

nodes_followed : (ns : Nodes) (n : Node) → AreNodes ns → IsNode n → AreNodes (followed_by ns n)
nodes_followed Nil n are is = (is, tt)
nodes_followed (Cons m ns) n are is = (are.0, nodes_followed ns n are.1 is)

-- ---- events before which nothing is exited that isn't open: nodes, and for each mark the enter that is open, and nodes after it

abbrev Held : List Event → List Mark → Type 0
Held es [] = (ns : Nodes) × (es ≡ events_of ns) × AreNodes ns
Held es (Entered own ∷ ms) =
    (done : List Event) × (e : Event) × (ns : Nodes) × (es ≡ done ++ e ∷ events_of ns) × (e.kind ≡ kind.Enter) × (e.name ≡ own) × AreNodes ns
    × Held done ms
Held es (Exited own ∷ ms) = ⊥

grown : (es : List Event) (ms : List Mark) (n : Node) → IsNode n → Held es ms → Held (es ++ node_events n) ms
grown es [] n is h =
    (followed_by h.0 n, ap (λ x. x ++ node_events n) h.1 ∙ sym (events_followed h.0 n), nodes_followed h.0 n h.2 is)
grown es (Entered own ∷ ms) n is h = (
  h.0,
  h.1,
  followed_by h.2 n,
  ap (λ x. x ++ node_events n) h.3 ∙ append_assoc h.0 (h.1 ∷ events_of h.2) (node_events n)
      ∙ ap (λ x. h.0 ++ h.1 ∷ x) (sym (events_followed h.2 n)),
  h.4,
  h.5,
  nodes_followed h.2 n h.6 is,
  h.7,
)
grown es (Exited own ∷ ms) n is h = absurd h

held_enter : (es : List Event) (ms : List Mark) (x : Event) → x.kind ≡ kind.Enter → Held es ms → Held (es ++ x ∷ []) (Entered x.name ∷ ms)
held_enter es ms x is h = (es, x, Nil, refl, is, refl, tt, h)

held_exit : (es : List Event) (own : Name) (ms : List Mark) (x : Event) → x.kind ≡ kind.Exit → own ≡ x.name → Held es (Entered own ∷ ms)
    → Held (es ++ x ∷ []) ms
held_exit es own ms x is same h =
    subst (λ y. Held y ms) (sym (ap (λ y. y ++ x ∷ []) h.3 ∙ append_assoc h.0 (h.1 ∷ events_of h.2) (x ∷ [])))
    (grown h.0 ms (Around h.1 h.2 x) (h.4, is, sym (h.5 ∙ same), h.6) h.7)

-- ---- an exit that fits nothing stays

abbrev HasExit : List Mark → Type 0
HasExit [] = ⊥
HasExit (Entered own ∷ ms) = HasExit ms
HasExit (Exited own ∷ ms) = Unit {0}

either_way : (t : Bool) (own name : Name) (ms : List Mark) → HasExit ms → HasExit (if t then ms else Exited name ∷ Entered own ∷ ms)
either_way true own name ms has = has
either_way false own name ms has = tt

still_closed : (name : Name) (ms : List Mark) → HasExit ms → HasExit (closed name ms)
still_closed name [] has = absurd has
still_closed name (Exited own ∷ ms) has = tt
still_closed name (Entered own ∷ ms) has = either_way (same_name own name) own name ms has

still_has : (ms : List Mark) (m : Mark) → HasExit ms → HasExit (then_mark ms m)
still_has ms (Entered name) has = has
still_has ms (Exited name) has = still_closed name ms has

stays : (marks ms : List Mark) → HasExit ms → fold then_mark ms marks ≡ [] → ⊥
stays [] ms has is = subst HasExit is has
stays (m ∷ marks) ms has is = stays marks (then_mark ms m) (still_has ms m has) is

-- ---- one event after another

ends : (done : List Event) (ms : List Mark) → Held done ms → ms ≡ [] → IsNested (done ++ [])
ends done ms h is =
    let held : Held done [] = subst (Held done) is h in
    record { nodes = held.0; each = append-nil done ∙ held.1; named = held.2 }

module _ (x : Event) (xs : List Event)
    (others : (done : List Event) (ms : List Mark) → Held done ms → fold then_mark ms (map mark_of xs) ≡ [] → IsNested (done ++ xs)) where
  exits_if : (t : Bool) (done : List Event) (own : Name) (ms : List Mark) → x.kind ≡ kind.Exit → same_name own x.name ≡ t → Held done (Entered own ∷ ms)
      → fold then_mark (if t then ms else Exited x.name ∷ Entered own ∷ ms) (map mark_of xs) ≡ [] → IsNested ((done ++ x ∷ []) ++ xs)
  exits_if true done own ms is same h e = others (done ++ x ∷ []) ms (held_exit done own ms x is (same_true the_type tt own x.name same) h) e
  exits_if false done own ms is same h e = absurd (stays (map mark_of xs) (Exited x.name ∷ Entered own ∷ ms) tt e)

  exits : (done : List Event) (ms : List Mark) → x.kind ≡ kind.Exit → Held done ms
      → fold then_mark (closed x.name ms) (map mark_of xs) ≡ [] → IsNested ((done ++ x ∷ []) ++ xs)
  exits done [] is h e = absurd (stays (map mark_of xs) (Exited x.name ∷ []) tt e)
  exits done (Exited own ∷ ms) is h e = absurd h
  exits done (Entered own ∷ ms) is h e = exits_if (same_name own x.name) done own ms is refl h e

  one_more : (k : Kind) (done : List Event) (ms : List Mark) → x.kind ≡ k → Held done ms
      → fold then_mark (then_mark ms (mark_as k x.name)) (map mark_of xs) ≡ [] → IsNested ((done ++ x ∷ []) ++ xs)
  one_more kind.Enter done ms is h e = others (done ++ x ∷ []) (Entered x.name ∷ ms) (held_enter done ms x is h) e
  one_more kind.Exit done ms is h e = exits done ms is h e

nested_from : (xs done : List Event) (ms : List Mark) → Held done ms → fold then_mark ms (map mark_of xs) ≡ [] → IsNested (done ++ xs)
nested_from [] done ms h e = ends done ms h e
nested_from (x ∷ xs) done ms h e =
    subst IsNested (append_assoc done (x ∷ []) xs) (one_more x xs (nested_from xs) x.kind done ms refl h e)

-- events that leave nothing open, and exit nothing that isn't open
pub nested : (events : List Event) → unmatched events ≡ [] → IsNested events
nested events none = nested_from events [] [] (Nil, refl, tt) none
