-- Children of a name: the first and the others, and what all nodes have.
use Rattle.std.proofs.Common.{◌≡◌, Bool, true, false, if◌then◌else◌, List, [], ◌∷◌, ◌++◌, Option, None, Some, refl, sym, ap, ◌∙◌, subst}
use Rattle.std.proofs.lemmas.List.{append_assoc}
use Rattle.compile_raw.proofs.Prelude.{after_child, before_child, child, children, Cons, Event, events_of, IfSome, Name, Nil, Node, node_events, node_name}
use Rattle.compile_raw.proofs.Prelude.{Nodes, same_name}
use Rattle.std.specs.Option.{MatchOption}

module _ (name : Name) where
  first_by : (b : Bool) (node : Node) (ns : Nodes)
      → MatchOption (child name ns) ((children name ns ≡ []) × (after_child name ns ≡ Nil)) (λ found. children name ns ≡ found ∷ children name (after_child name ns))
      → MatchOption (if b then Some node else child name ns)
      (((if b then node ∷ children name ns else children name ns) ≡ []) × ((if b then ns else after_child name ns) ≡ Nil))
      (λ found. (if b then node ∷ children name ns else children name ns) ≡ found ∷ children name (if b then ns else after_child name ns))
  first_by true node ns h = refl
  first_by false node ns h = h

  -- the first child of the name, and the others after it
  pub first_child : (ns : Nodes)
      → MatchOption (child name ns) ((children name ns ≡ []) × (after_child name ns ≡ Nil)) (λ found. children name ns ≡ found ∷ children name (after_child name ns))
  first_child Nil = (refl, refl)
  first_child (Cons node ns) = first_by (same_name (node_name node) name) node ns (first_child ns)

  abbrev Split : Nodes → Option Node → Type 0
  Split ns o = MatchOption o ((children name ns ≡ []) × (after_child name ns ≡ Nil)) (λ found. children name ns ≡ found ∷ children name (after_child name ns))

  pub first_some : (ns : Nodes) (node : Node) → child name ns ≡ Some node → children name ns ≡ node ∷ children name (after_child name ns)
  first_some ns node e = subst (Split ns) e (first_child ns)

  pub first_none : (ns : Nodes) → child name ns ≡ None → (children name ns ≡ []) × (after_child name ns ≡ Nil)
  first_none ns e = subst (Split ns) e (first_child ns)

  before_by : (b : Bool) (node : Node) (ns : Nodes) (o : Option Node) → (o ≡ None → before_child name ns ≡ ns) → (if b then Some node else o) ≡ None
      → (if b then Nil else Cons node (before_child name ns)) ≡ Cons node ns
  before_by true node ns o h e = absurd (cc)
  before_by false node ns o h e = ap (Cons node) (h e)

  -- all are before a child that isn't there
  pub no_child_before : (ns : Nodes) → child name ns ≡ None → before_child name ns ≡ ns
  no_child_before Nil e = refl
  no_child_before (Cons node ns) e = before_by (same_name (node_name node) name) node ns (child name ns) (no_child_before ns) e

  choose : (P : Nodes → Type 0) (b : Bool) (ns ks : Nodes) → P ns → P ks → P (if b then ns else ks)
  choose P true ns ks h k = h
  choose P false ns ks h k = k

  choose_some : (Q : Node → Type 0) (b : Bool) (node : Node) (o : Option Node) → Q node → IfSome o Q → IfSome (if b then Some node else o) Q
  choose_some Q true node o h k = h
  choose_some Q false node o h k = k

  module _ (P : Nodes → Type 0) (Q : Node → Type 0) (nil : P Nil) (parts : (node : Node) (ns : Nodes) → P (Cons node ns) → Q node × P ns) where
    -- what all nodes have, the child has, and those after it
    pub child_has : (ns : Nodes) → P ns → IfSome (child name ns) Q
    child_has Nil h = tt
    child_has (Cons node ns) h =
        let h2 = parts node ns h in
        choose_some Q (same_name (node_name node) name) node (child name ns) h2.0 (child_has ns h2.1)

    pub after_has : (ns : Nodes) → P ns → P (after_child name ns)
    after_has Nil h = nil
    after_has (Cons node ns) h =
        let h2 = parts node ns h in
        choose P (same_name (node_name node) name) ns (after_child name ns) h2.1 (after_has ns h2.1)

    -- and those before it
    pub before_has : ((node : Node) (ns : Nodes) → Q node → P ns → P (Cons node ns)) → (ns : Nodes) → P ns → P (before_child name ns)
    before_has both Nil h = nil
    before_has both (Cons node ns) h =
        let h2 = parts node ns h in
        choose P (same_name (node_name node) name) Nil (Cons node (before_child name ns)) nil (both node (before_child name ns) h2.0 (before_has both ns h2.1))

  -- the events of nodes around those of the child
  abbrev Around : Nodes → Option Node → Type 0
  Around ns o =
      MatchOption o (Unit {0}) (λ node. events_of ns ≡ events_of (before_child name ns) ++ (node_events node ++ events_of (after_child name ns)))

  around_later : (node : Node) (ns : Nodes) (o : Option Node) → Around ns o
      → MatchOption o (Unit {0})
      (λ found. node_events node ++ events_of ns
      ≡ (node_events node ++ events_of (before_child name ns)) ++ (node_events found ++ events_of (after_child name ns)))
  around_later node ns None h = tt
  around_later node ns (Some found) h =
      ap (λ (x : List Event). node_events node ++ x) h
      ∙ sym (append_assoc (node_events node) (events_of (before_child name ns)) (node_events found ++ events_of (after_child name ns)))

  around_by : (b : Bool) (node : Node) (ns : Nodes) → Around ns (child name ns)
      → MatchOption (if b then Some node else child name ns) (Unit {0})
      (λ found. node_events node ++ events_of ns
      ≡ events_of (if b then Nil else Cons node (before_child name ns)) ++ (node_events found ++ events_of (if b then ns else after_child name ns)))
  around_by true node ns h = refl
  around_by false node ns h = around_later node ns (child name ns) h

  around_first : (ns : Nodes) → Around ns (child name ns)
  around_first Nil = tt
  around_first (Cons node ns) = around_by (same_name (node_name node) name) node ns (around_first ns)

  pub child_around : (ns : Nodes) (node : Node) → child name ns ≡ Some node
      → events_of ns ≡ events_of (before_child name ns) ++ (node_events node ++ events_of (after_child name ns))
  child_around ns node e = subst (Around ns) e (around_first ns)
