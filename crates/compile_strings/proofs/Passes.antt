-- Events in an event that is passed over change nothing.
use Rattle.std.proofs.Common.{◌≡◌, ℕ, ◌+◌, ◌-◌, ◌==◌, Bool, true, false, List, [], ◌∷◌, ◌++◌, refl, ap, ◌∙◌, arith}
use Rattle.compile_strings.proofs.Prelude.{AreNodes, Around, Cons, eqb-true, Event, events_of, Nil, Nodes, split}
use Rattle.engine_events.specs.declared.event.Kind.TheVariants.{Enter, Exit}

zero_by : (q : ℕ) (t : Bool) → ((q + 1) == 0) ≡ t → t ≡ false
zero_by q true e = absurd (let l = eqb-true (q + 1) 0 e in omega arith)
zero_by q false e = refl

pub nonzero : (q : ℕ) → ((q + 1) == 0) ≡ false
nonzero q = zero_by q ((q + 1) == 0) refl

pub less : (q : ℕ) → (q + 1) - 1 ≡ q
less q = omega arith

-- a reading by how many events are open that passes over enters and exits in an open one
pub record PassesOver {X : Type 0} (read : ℕ → List Event → X) : Type 0 where
  pub down : (d : ℕ) (e : Event) (es : List Event) → e.kind ≡ Enter → read (d + 1) (e ∷ es) ≡ read (d + 1 + 1) es
  pub up : (d : ℕ) (e : Event) (es : List Event) → e.kind ≡ Exit → read (d + 1 + 1) (e ∷ es) ≡ read (d + 1) es

pub passes : {X : Type 0} (read : ℕ → List Event → X) → PassesOver read → (ns : Nodes) → AreNodes ns → (d : ℕ) (es : List Event)
    → read (d + 1) (events_of ns ++ es) ≡ read (d + 1) es
passes read p Nil k d es = refl
passes read p (Cons (Around enter kids exit) ns) k d es =
    let rest = events_of ns ++ es in
    p.down d enter (((events_of kids ++ exit ∷ []) ++ events_of ns) ++ es) k.0.0
    ∙ ap (λ (l : List Event). read (d + 1 + 1) l) (split kids ns exit es)
    ∙ passes read p kids k.0.3 (d + 1) (exit ∷ rest)
    ∙ p.up d exit rest k.0.1
    ∙ passes read p ns k.1 d es
