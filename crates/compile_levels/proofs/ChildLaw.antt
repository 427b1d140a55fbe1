-- A walk over siblings that looks for a name, by the tree.
use Rattle.std.proofs.Common.{◌≡◌, ◌-◌, ℕ, Bool, true, false, List, [], ◌++◌, None, Some, length, take, subst, refl, sym, ap, ◌∙◌, append_assoc, arith}
use Rattle.std.proofs.lemmas.Bool.{cond-false, cond-true}
use Rattle.std.proofs.lemmas.List.{length-append, append-nil}
use Rattle.std.proofs.Math.Seq.{take-append_seam}
use Rattle.engine_events.specs.Names.{same_name}
use Rattle.engine_events.specs.declared.event.Event.{Event}
use Rattle.engine_events.specs.declared.event.Name.{Name}
use Rattle.event_grammar.specs.InGrammar.{node_name}
use Rattle.event_grammar.specs.Trees as tree
use Rattle.event_grammar.specs.Trees.{Nodes, Around, Nil, Cons, node_events, events_of, AreNodes}
use Rattle.event_meaning.specs.Children.{child, after_child, before_child}
use Rattle.compile_levels.specs.Children.{IsFirstOf, IsChildOf}
use Rattle.compile_levels.specs.Siblings.{Reads}
use Rattle.compile_levels.specs.declared.node.Node.{Node}
use Rattle.compile_levels.specs.declared.node.Sibling.{Sibling}

-- siblings were passed that haven't the name: those that are left are the events of nodes
pub record Passes (name : Name) (events : List Event) (ns : Nodes) (rest : List Event) : Type 0 where
  pub nodes : Nodes
  pub are : AreNodes nodes
  pub left : rest ≡ events_of nodes
  pub front : List Event
  pub events_are : events ≡ front ++ rest
  pub child_is : child name ns ≡ child name nodes
  pub after_is : after_child name ns ≡ after_child name nodes
  pub before_is : events_of (before_child name ns) ≡ front ++ events_of (before_child name nodes)

pub none_passed : (name : Name) (events : List Event) (ns : Nodes) → AreNodes ns → events ≡ events_of ns → Passes name events ns events
none_passed name events ns k e =
    record { nodes = ns; are = k; left = e; front = []; events_are = refl; child_is = refl; after_is = refl; before_is = refl }

-- an event that is read as a node has its name
pub reads_name : (node : Node) (first : tree.Node) → Reads node first → node_name first ≡ node.name
reads_name node (Around enter kids exit) h = sym h.0

named : (name : Name) (node : Node) (first : tree.Node) (b : Bool) → Reads node first → same_name node.name name ≡ b → same_name (node_name first) name ≡ b
named name node first b h e = ap (λ (n : Name). same_name n name) (reads_name node first h) ∙ e

-- one more
pub one_passed : (name : Name) (events : List Event) (ns : Nodes) (rest : List Event) (node : Node) (after : List Event) (p : Passes name events ns rest)
    → IsFirstOf p.nodes node after → same_name node.name name ≡ false → Passes name events ns after
one_passed name events ns rest node after p f other =
    let first = f.first in
    let others = f.others in
    let is = same_name (node_name first) name in
    let no : is ≡ false = named name node first false f.reads other in
    let Are : Nodes → Type 0 = λ x. AreNodes x in
    let are : AreNodes (Cons first others) = subst Are f.nodes p.are in
    let rest_is : rest ≡ node_events first ++ after =
    p.left ∙ ap events_of f.nodes ∙ ap (λ (x : List Event). node_events first ++ x) (sym f.rest) in
    record {
      nodes = others;
      are = are.1;
      left = f.rest;
      front = p.front ++ node_events first;
      events_are = p.events_are ∙ ap (λ (x : List Event). p.front ++ x) rest_is ∙ sym (append_assoc p.front (node_events first) after);
      child_is = p.child_is ∙ ap (child name) f.nodes ∙ cond-false is (Some first) (child name others) no;
      after_is = p.after_is ∙ ap (after_child name) f.nodes ∙ cond-false is others (after_child name others) no;
      before_is =
          p.before_is
          ∙ ap (λ (x : Nodes). p.front ++ events_of (before_child name x)) f.nodes
          ∙ ap (λ (x : Nodes). p.front ++ events_of x) (cond-false is Nil (Cons first (before_child name others)) no)
          ∙ sym (append_assoc p.front (node_events first) (events_of (before_child name others)));
    }

seam : (front rest : List Event) → length (front ++ rest) - length rest ≡ length front
seam front rest = omega (arith, length-append front rest)

-- the events before those that are left
fronts : (events front rest : List Event) → events ≡ front ++ rest → take (length events - length rest) events ≡ front
fronts events front rest e =
    ap (λ (x : List Event). take (length x - length rest) x) e
    ∙ ap (λ (n : ℕ). take n (front ++ rest)) (seam front rest)
    ∙ take-append_seam front rest

-- the first that has the name
pub found_law : (name : Name) (events : List Event) (ns : Nodes) (rest : List Event) (node : Node) (after : List Event) (p : Passes name events ns rest)
    → IsFirstOf p.nodes node after → same_name node.name name ≡ true → (found : Sibling) → found.index ≡ length events - length rest → found.node ≡ node
    → found.after.now ≡ after → IsChildOf name events ns found
found_law name events ns rest node after p f this found index node_is after_is =
    let first = f.first in
    let others = f.others in
    let is = same_name (node_name first) name in
    let yes : is ≡ true = named name node first true f.reads this in
    record {
      node = first;
      named = p.child_is ∙ ap (child name) f.nodes ∙ cond-true is (Some first) (child name others) yes;
      reads = let P : Node → Type 0 = λ x. Reads x first in subst P (sym node_is) f.reads;
      before =
          ap (λ (n : ℕ). take n events) index
          ∙ fronts events p.front rest p.events_are
          ∙ sym (p.before_is
          ∙ ap (λ (x : Nodes). p.front ++ events_of (before_child name x)) f.nodes
          ∙ ap (λ (x : Nodes). p.front ++ events_of x) (cond-true is Nil (Cons first (before_child name others)) yes)
          ∙ append-nil p.front);
      after =
          after_is ∙ f.rest
          ∙ sym (ap events_of (p.after_is ∙ ap (after_child name) f.nodes ∙ cond-true is others (after_child name others) yes));
    }

-- none has it
pub no_child : (name : Name) (events : List Event) (ns : Nodes) (rest : List Event) (p : Passes name events ns rest) → p.nodes ≡ Nil → child name ns ≡ None
no_child name events ns rest p e = p.child_is ∙ ap (child name) e
