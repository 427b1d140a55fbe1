-- Children by events are those of the tree.
use Rattle.std.proofs.Common.{◌≡◌, ℕ, ◌+◌, ◌-◌, ◌==◌, Bool, true, false, ◌&&◌, if◌then◌else◌, List, [], ◌∷◌, ◌++◌, drop, Option, None, Some, refl, sym, ap}
use Rattle.std.proofs.Common.{◌∙◌, append_assoc, subst}
use Rattle.compile_written.proofs.Prelude.{AreNodes, AreWithin, Around, bytes_between, child, cond-false, Cons, Event, events_of, from_child, inside_of, IsEnd}
use Rattle.compile_written.proofs.Prelude.{IsNode, kids_in, Kind, less, Name, Nil, Node, node_events, Nodes, nonzero, same_name, split, Spot, spot_of}
use Rattle.compile_written.proofs.Prelude.{StandsFirst, text_first, text_in, text_or_none, text_to}
use Rattle.engine_events.specs.declared.event.Kind.TheVariants.{Enter, Exit}
use Rattle.compile_written.specs.Child.{from_next, to_next}

-- ---- children

child_enter : (kind : Kind) (own name : Name) (d : ℕ) (here : List Event) (others : ℕ → List Event) → kind ≡ Enter → (d == 0) ≡ false
    → from_next kind own name d here others ≡ others (d + 1)
child_enter kind own name d here others h z =
    ap (λ (k : Kind). from_next k own name d here others) h
    ∙ ap (λ (t : Bool). if t && same_name own name then here else others (d + 1)) z

child_exit : (kind : Kind) (own name : Name) (d : ℕ) (here : List Event) (others : ℕ → List Event) → kind ≡ Exit
    → from_next kind own name (d + 1) here others ≡ others d
child_exit kind own name d here others h =
    ap (λ (k : Kind). from_next k own name (d + 1) here others) h
    ∙ cond-false ((d + 1) == 0) [] (others ((d + 1) - 1)) (nonzero d)
    ∙ ap others (less d)

child_deep : (name : Name) (ns : Nodes) → AreNodes ns → (d : ℕ) → (d == 0) ≡ false → (es : List Event)
    → from_child name d (events_of ns ++ es) ≡ from_child name d es
child_deep name Nil k d z es = refl
child_deep name (Cons (Around enter kids exit) ns) k d z es =
    let rest = events_of ns ++ es in
    let inner = events_of kids ++ exit ∷ rest in
    ap (λ (l : List Event). from_child name d (enter ∷ l)) (split kids ns exit es)
    ∙ child_enter enter.kind enter.name name d (enter ∷ inner) (λ e. from_child name e inner) k.0.0 z
    ∙ child_deep name kids k.0.3 (d + 1) (nonzero d) (exit ∷ rest)
    ∙ child_exit exit.kind exit.name name d (exit ∷ rest) (λ e. from_child name e rest) k.0.1
    ∙ child_deep name ns k.1 d z es

no_child : (name : Name) (es : List Event) → IsEnd es → from_child name 0 es ≡ []
no_child name [] h = refl
no_child name (e ∷ es) h = ap (λ (k : Kind). from_next k e.name name 0 (e ∷ es) (λ d. from_child name d es)) h

child_by : (b : Bool) (node : Node) (later : Option Node) (here others back : List Event) → IsNode node → here ≡ node_events node ++ back
    → StandsFirst later others → StandsFirst (if b then Some node else later) (if b then here else others)
child_by true node later here others back k h l = (k, back, h)
child_by false node later here others back k h l = l

-- Where the first child of a name begins.
pub child_law : (name : Name) (ns : Nodes) → AreNodes ns → (es : List Event) → IsEnd es → StandsFirst (child name ns) (from_child name 0 (events_of ns ++ es))
child_law name Nil k es x = no_child name es x
child_law name (Cons (Around enter kids exit) ns) k es x =
    let rest = events_of ns ++ es in
    let inner = events_of kids ++ exit ∷ rest in
    let b = same_name enter.name name in
    let later : from_child name 1 inner ≡ from_child name 0 rest =
    child_deep name kids k.0.3 1 refl (exit ∷ rest) ∙ child_exit exit.kind exit.name name 0 (exit ∷ rest) (λ e. from_child name e rest) k.0.1 in
    let whole : from_child name 0 (events_of (Cons (Around enter kids exit) ns) ++ es) ≡ (if b then enter ∷ inner else from_child name 0 rest) =
    ap (λ (l : List Event). from_child name 0 (enter ∷ l)) (split kids ns exit es)
    ∙ ap (λ (z : Kind). from_next z enter.name name 0 (enter ∷ inner) (λ e. from_child name e inner)) k.0.0
    ∙ ap (λ (z : List Event). if b then enter ∷ inner else z) later in
    subst (StandsFirst (child name (Cons (Around enter kids exit) ns))) (sym whole)
    (child_by b (Around enter kids exit) (child name ns) (enter ∷ inner) (from_child name 0 rest) rest k.0
    (sym (ap (λ (z : List Event). enter ∷ z) (append_assoc (events_of kids) (exit ∷ []) rest)))
    (child_law name ns k.1 es x))

-- What is in the first of these.
pub inside_law : (o : Option Node) (es : List Event) → StandsFirst o es → AreWithin (inside_of o) (drop 1 es)
inside_law None es h = record { nodes = tt; back = []; ends = tt; events_are = ap (drop 1) h }
inside_law (Some (Around enter kids exit)) es h =
    record { nodes = h.0.3; back = exit ∷ h.1; ends = h.0.1; events_are = ap (drop 1) h.2 ∙ append_assoc (events_of kids) (exit ∷ []) h.1 }

pub child_within : (name : Name) (ns : Nodes) (es : List Event) → AreWithin ns es → StandsFirst (child name ns) (from_child name 0 es)
child_within name ns es w =
    subst (λ (l : List Event). StandsFirst (child name ns) (from_child name 0 l)) (sym w.events_are) (child_law name ns w.nodes w.back w.ends)

pub kids_within : (name : Name) (ns : Nodes) (es : List Event) → AreWithin ns es → AreWithin (kids_in name ns) (drop 1 (from_child name 0 es))
kids_within name ns es w = inside_law (child name ns) (from_child name 0 es) (child_within name ns es w)

-- ---- bytes

module _ (bytes : List ℕ) where
  to_exit : (kind : Kind) (d : ℕ) (here : List ℕ) (others : ℕ → List ℕ) → kind ≡ Exit → to_next kind (d + 1) here others ≡ others d
  to_exit kind d here others h =
      ap (λ (k : Kind). to_next k (d + 1) here others) h
      ∙ cond-false ((d + 1) == 0) here (others ((d + 1) - 1)) (nonzero d)
      ∙ ap others (less d)

  to_over : (from : Spot) (ns : Nodes) → AreNodes ns → (d : ℕ) (es : List Event) → text_to bytes from d (events_of ns ++ es) ≡ text_to bytes from d es
  to_over from Nil k d es = refl
  to_over from (Cons (Around enter kids exit) ns) k d es =
      let rest = events_of ns ++ es in
      let inner = events_of kids ++ exit ∷ rest in
      ap (λ (l : List Event). text_to bytes from d (enter ∷ l)) (split kids ns exit es)
      ∙ ap (λ (z : Kind). to_next z d (bytes_between bytes from (spot_of enter)) (λ e. text_to bytes from e inner)) k.0.0
      ∙ to_over from kids k.0.3 (d + 1) (exit ∷ rest)
      ∙ to_exit exit.kind d (bytes_between bytes from (spot_of exit)) (λ e. text_to bytes from e rest) k.0.1
      ∙ to_over from ns k.1 d es

  -- The bytes of the first of these.
  pub text_is : (o : Option Node) (es : List Event) → StandsFirst o es → text_first bytes es ≡ text_or_none bytes o
  text_is None es h = ap (text_first bytes) h
  text_is (Some (Around enter kids exit)) es h =
      ap (text_first bytes) h.2
      ∙ ap (text_to bytes (spot_of enter) 0) (append_assoc (events_of kids) (exit ∷ []) h.1)
      ∙ to_over (spot_of enter) kids h.0.3 0 (exit ∷ h.1)
      ∙ ap (λ (z : Kind). to_next z 0 (bytes_between bytes (spot_of enter) (spot_of exit)) (λ e. text_to bytes (spot_of enter) e h.1)) h.0.1

  pub text_in_is : (name : Name) (ns : Nodes) (es : List Event) → AreWithin ns es → text_first bytes (from_child name 0 es) ≡ text_in bytes name ns
  text_in_is name ns es w = text_is (child name ns) (from_child name 0 es) (child_within name ns es w)
