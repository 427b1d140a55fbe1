-- Events without a fault are those of their tree.
use Rattle.std.proofs.Common.{◌≡◌, ℕ, ◌+◌, Bool, true, false, if◌then◌else◌, List, [], ◌∷◌, ◌++◌, Option, None, Some, refl, sym, ap, ◌∙◌, subst, append_assoc}
use Rattle.std.proofs.lemmas.List.{append-nil}
use Rattle.event_faults.proofs.Prelude.{at_start, Check, check_at, entered_as, Err, Event, event_fault, EventFault, exited_to, fault_after, fault_at_end}
use Rattle.event_faults.proofs.Prelude.{fault_from, FaultKind, fold, is_barred, Kind, may_exit, moved, Name, Ok, Open, opened, Result, Spot, spot_of}
use Rattle.event_faults.proofs.Prelude.{stands_between, step, take_child, Taken, with_above, with_child}
use Rattle.engine_events.specs.declared.event.Kind.TheVariants.{Enter, Exit}
use Rattle.event_faults.specs.declared.fault.FaultKind.TheVariants as kinds
use Rattle.event_grammar.specs.declared.slot.Form.TheVariants.{Plain}
use Rattle.event_grammar.specs.Trees.{Node, Nodes, Around, Nil, Cons, followed_by, events_of, node_events, Part, Growth, growth, grown, closed, tree}
use Rattle.event_faults.proofs.Runs.{step_moved}

-- ---- trees

followed : (ns : Nodes) (node : Node) → events_of (followed_by ns node) ≡ events_of ns ++ node_events node
followed Nil node = append-nil (node_events node)
followed (Cons n ns) node = ap (λ (z : List Event). node_events n ++ z) (followed ns node) ∙ sym (append_assoc (node_events n) (events_of ns) (node_events node))

-- the events of what has grown so far
abbrev outer_events : List Part → List Event
outer_events [] = []
outer_events (p ∷ ps) = (outer_events ps ++ events_of p.before) ++ p.enter ∷ []

abbrev so_far : Growth → List Event
so_far g = outer_events g.outer ++ events_of g.kids

-- as many are open on both sides
abbrev Matches : List Part → List Open → Type 0
Matches [] [] = Unit {0}
Matches [] (o ∷ os) = ⊥
Matches (p ∷ ps) [] = ⊥
Matches (p ∷ ps) (o ∷ os) = Matches ps os

opens : (g : Growth) (e : Event) → so_far (grown g Enter e) ≡ so_far g ++ e ∷ []
opens g e = append-nil (so_far g ++ e ∷ [])

regroup : (a b c : List Event) (e x : Event) → ((a ++ b) ++ e ∷ []) ++ c ++ x ∷ [] ≡ a ++ (b ++ e ∷ (c ++ x ∷ []))
regroup a b c e x = simp append_assoc

closes : (kids : Nodes) (p : Part) (ps : List Part) (e : Event) → so_far (closed (growth kids (p ∷ ps)) e (p ∷ ps)) ≡ so_far (growth kids (p ∷ ps)) ++ e ∷ []
closes kids p ps e =
    ap (λ (z : List Event). outer_events ps ++ z) (followed p.before (Around p.enter kids e))
    ∙ sym (regroup (outer_events ps) (events_of p.before) (events_of kids) p.enter e)

-- ---- what is open

no : (A : Type 0) (c : Check) → (let o : Option Check = None in o ≡ Some c) → A
no A c h = absurd (cc)

is : (a b : Check) → Some a ≡ Some b → a ≡ b
is a b h = cc

module _ (p : Part) (ps : List Part) (at : Spot) (name : Name) where
  between_by : (b : Bool) (c next : Check) → Matches ps c.outer
      → (if b then Some (check_at (opened c.inner name Plain at) (c.inner ∷ c.outer) at) else None) ≡ Some next → Matches (p ∷ ps) next.outer
  between_by true c next m h =
      subst (λ (z : Check). Matches (p ∷ ps) z.outer) (is (check_at (opened c.inner name Plain at) (c.inner ∷ c.outer) at) next h) m
  between_by false c next m h = no _ next h

  enters_as : (c next : Check) (t : Option Taken) → Matches ps c.outer → entered_as c at name t ≡ Some next → Matches (p ∷ ps) next.outer
  enters_as c next (Some t) m h =
      subst (λ (z : Check). Matches (p ∷ ps) z.outer) (is (check_at (opened c.inner name t.form at) (with_child c.inner name t.rest ∷ c.outer) at) next h) m
  enters_as c next None m h = between_by (stands_between c.inner.around name) c next m h

  enters_by : (b : Bool) (c next : Check) → Matches ps c.outer
      → (if b then None else entered_as c at name (take_child c.inner.rest name)) ≡ Some next → Matches (p ∷ ps) next.outer
  enters_by true c next m h = no _ next h
  enters_by false c next m h = enters_as c next (take_child c.inner.rest name) m h

-- an exit that may stand closes what is open on both sides
pub record Closes (parts : List Part) (next : Check) : Type 0 where
  pub p : Part
  pub ps : List Part
  pub parts_are : parts ≡ p ∷ ps
  pub matches : Matches ps next.outer

exits_to : (c next : Check) (at : Spot) (name : Name) (parts : List Part) (outer : List Open) → Matches parts outer → exited_to c at name outer ≡ Some next → Closes parts next
exits_to c next at name parts [] m h = no _ next h
exits_to c next at name [] (o ∷ os) m h = absurd m
exits_to c next at name (p ∷ ps) (o ∷ os) m h =
    record { p = p; ps = ps; parts_are = refl; matches = subst (λ (z : Check). Matches ps z.outer) (is (check_at (with_above o name c.inner.cells) os at) next h) m }

exits_by : (b : Bool) (c next : Check) (at : Spot) (name : Name) (parts : List Part) → Matches parts c.outer
    → (if b then exited_to c at name c.outer else None) ≡ Some next → Closes parts next
exits_by true c next at name parts m h = exits_to c next at name parts c.outer m h
exits_by false c next at name parts m h = no _ next h

-- ---- one event, and all

pub record Grows (g : Growth) (kind : Kind) (e : Event) (next : Check) : Type 0 where
  pub events : so_far (grown g kind e) ≡ so_far g ++ e ∷ []
  pub matches : Matches (grown g kind e).outer next.outer

closes_to : (g : Growth) (e : Event) (next : Check) (parts : List Part) → parts ≡ g.outer → Closes parts next → Grows g Exit e next
closes_to g e next parts q k =
    let here : g.outer ≡ k.p ∷ k.ps = sym q ∙ k.parts_are in
    subst (λ (z : List Part). Grows (growth g.kids z) Exit e next) (sym here) (record { events = closes g.kids k.p k.ps e; matches = k.matches })

grows : (g : Growth) (c next : Check) (kind : Kind) (name : Name) (at : Spot) (e : Event) → Matches g.outer c.outer → moved c kind name at ≡ Some next → Grows g kind e next
grows g c next Enter name at e m h =
    record { events = opens g e; matches = enters_by (record { enter = e; before = g.kids }) g.outer at name (is_barred c.inner name) c next m h }
grows g c next Exit name at e m h = closes_to g e next g.outer refl (exits_by (may_exit c.inner name) c next at name g.outer m h)

abbrev grow : Growth → Event → Growth
grow g e = grown g e.kind e

no_fault : (A : Type 0) (f : EventFault) → Some f ≡ None → A
no_fault A f h = absurd (let k : Some f ≡ None = h in cc)

module _ (names : List ℕ → Option (List ℕ)) (bytes : List ℕ) where
  at_end : (g : Growth) (outer : List Open) (n : ℕ) → Matches g.outer outer → fault_at_end outer n ≡ None → so_far g ≡ events_of g.kids
  at_end g [] n m h = closed_all g.outer m g.kids
    where
      closed_all : (ps : List Part) → Matches ps [] → (kids : Nodes) → outer_events ps ++ events_of kids ≡ events_of kids
      closed_all [] m kids = refl
      closed_all (p ∷ ps) m kids = absurd m
  at_end g (o ∷ os) n m h = no_fault _ (event_fault kinds.Open n) h

  -- what is left has no fault, so all of it is a tree
  abbrev IsWhole : Growth → List Event → Type 0
  IsWhole g es = (so_far (fold grow g es) ≡ so_far g ++ es) × (so_far (fold grow g es) ≡ events_of (fold grow g es).kids)

  longer : (g : Growth) (e : Event) (es : List Event) → so_far (grow g e) ≡ so_far g ++ e ∷ [] → IsWhole (grow g e) es → IsWhole g (e ∷ es)
  longer g e es h k = (k.0 ∙ ap (λ (z : List Event). z ++ es) h ∙ append_assoc (so_far g) (e ∷ []) es, k.1)

  after_step : (g : Growth) (c : Check) (n : ℕ) (e : Event) (es : List Event) → Matches g.outer c.outer
      → ((next : Check) → Matches (grow g e).outer next.outer → fault_from names bytes next (n + 1) es ≡ None → IsWhole (grow g e) es)
      → (r : Result Check FaultKind) → step names bytes c e ≡ r → fault_after r n (λ next. fault_from names bytes next (n + 1) es) ≡ None → IsWhole g (e ∷ es)
  after_step g c n e es m ih (Err kind) s h = no_fault _ (event_fault kind n) h
  after_step g c n e es m ih (Ok next) s h =
      let k = grows g c next e.kind e.name (spot_of e) e m (step_moved names bytes c next e s) in longer g e es k.events (ih next k.matches h)

  whole : (es : List Event) (g : Growth) (c : Check) (n : ℕ) → Matches g.outer c.outer → fault_from names bytes c n es ≡ None → IsWhole g es
  whole [] g c n m h = (sym (append-nil (so_far g)), at_end g c.outer n m h)
  whole (e ∷ es) g c n m h = after_step g c n e es m (λ next. whole es (grow g e) next (n + 1)) (step names bytes c e) refl h

  -- The law of nesting: events without a fault are those of their tree.
  pub tree_law : (events : List Event) → fault_from names bytes at_start 0 events ≡ None → events ≡ events_of (tree events)
  tree_law events h = let k = whole events (growth Nil []) at_start 0 tt h in sym k.0 ∙ k.1
