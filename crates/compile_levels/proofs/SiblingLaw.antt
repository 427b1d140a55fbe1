-- The events of nodes before the exit around them.
use Rattle.std.proofs.Common.{◌≡◌, ℕ, Bool, true, false, suc, ◌+◌, ◌-◌, ◌==◌, List, [], ◌∷◌, ◌++◌, length, take, drop}
use Rattle.std.proofs.Common.{refl, sym, ap, ◌∙◌, append_assoc, zero-add, arith}
use Rattle.std.proofs.lemmas.Bool.{eqb-true, cond-false}
use Rattle.std.proofs.lemmas.List.{length-append}
use Rattle.std.proofs.Math.Seq.{take-append_seam, drop-append_seam}
use Rattle.engine_events.specs.declared.event.Event.{Event}
use Rattle.engine_events.specs.declared.event.Kind.{Kind}
use Rattle.engine_events.specs.declared.event.Kind.TheVariants.{Exit}
use Rattle.event_grammar.specs.Trees.{Nodes, Around, Nil, Cons, events_of, AreNodes}
use Rattle.event_grammar.specs.Points.{spot_of}
use Rattle.compile_levels.specs.Siblings.{size_next, size_inside, inside, first_or, IsFirst, Reads}
use Rattle.compile_levels.specs.declared.node.Node.{Node}

zero_by : (q : ℕ) (t : Bool) → ((q + 1) == 0) ≡ t → t ≡ false
zero_by q true e = absurd (let l = eqb-true (q + 1) 0 e in omega arith)
zero_by q false e = refl

nonzero : (q : ℕ) → ((q + 1) == 0) ≡ false
nonzero q = zero_by q ((q + 1) == 0) refl

less : (q : ℕ) → (q + 1) - 1 ≡ q
less q = omega arith

-- a node and those after it
pub split : (kids others : Nodes) (exit : Event) (es : List Event)
    → ((events_of kids ++ exit ∷ []) ++ events_of others) ++ es ≡ events_of kids ++ exit ∷ (events_of others ++ es)
split kids others exit es = simp append_assoc

-- ---- how many events are inside

size_up : (kind : Kind) (d : ℕ) (others : ℕ → ℕ) → kind ≡ Exit → size_next kind (d + 1) others ≡ suc (others d)
size_up kind d others h =
    ap (λ (k : Kind). size_next k (d + 1) others) h
    ∙ cond-false ((d + 1) == 0) 0 (suc (others ((d + 1) - 1))) (nonzero d)
    ∙ ap (λ (z : ℕ). suc (others z)) (less d)

added : (a b c : ℕ) → suc (a + suc (b + c)) ≡ suc ((a + 1) + b) + c
added a b c = omega arith

size : (kids : Nodes) (exit : Event) (ns : Nodes) (enter : Event)
    → length (events_of (Cons (Around enter kids exit) ns)) ≡ suc ((length (events_of kids) + 1) + length (events_of ns))
size kids exit ns enter =
    ap suc (length-append (events_of kids ++ exit ∷ []) (events_of ns)
    ∙ ap (λ (z : ℕ). z + length (events_of ns)) (length-append (events_of kids) (exit ∷ [])))

deep : (ns : Nodes) → AreNodes ns → (d : ℕ) (es : List Event) → size_inside d (events_of ns ++ es) ≡ length (events_of ns) + size_inside d es
deep Nil k d es = sym (zero-add (size_inside d es))
deep (Cons (Around enter kids exit) ns) k d es =
    let rest = events_of ns ++ es in
    ap (λ (l : List Event). size_inside d (enter ∷ l)) (split kids ns exit es)
    ∙ ap (λ (z : Kind). size_next z d (λ e. size_inside e (events_of kids ++ exit ∷ rest))) k.0.0
    ∙ ap suc (deep kids k.0.3 (d + 1) (exit ∷ rest)
    ∙ ap (λ (z : ℕ). length (events_of kids) + z) (size_up exit.kind d (λ e. size_inside e rest) k.0.1
    ∙ ap suc (deep ns k.1 d es)))
    ∙ added (length (events_of kids)) (length (events_of ns)) (size_inside d es)
    ∙ ap (λ (z : ℕ). z + size_inside d es) (sym (size kids exit ns enter))

plus_none : (a b : ℕ) → b ≡ 0 → a + b ≡ a
plus_none a b h = omega (arith, h)

pub size_law : (kids : Nodes) → AreNodes kids → (exit : Event) (es : List Event) → exit.kind ≡ Exit
    → size_inside 0 (events_of kids ++ exit ∷ es) ≡ length (events_of kids)
size_law kids k exit es h =
    deep kids k 0 (exit ∷ es)
    ∙ plus_none (length (events_of kids)) (size_inside 0 (exit ∷ es)) (ap (λ (z : Kind). size_next z 0 (λ d. size_inside d es)) h)

pub inside_law : (kids : Nodes) → AreNodes kids → (exit : Event) (es : List Event) → exit.kind ≡ Exit
    → inside (events_of kids ++ exit ∷ es) ≡ events_of kids
inside_law kids k exit es h =
    ap (λ (z : ℕ). take z (events_of kids ++ exit ∷ es)) (size_law kids k exit es h) ∙ take-append_seam (events_of kids) (exit ∷ es)

pub after_law : (kids : Nodes) → AreNodes kids → (exit : Event) (es : List Event) → exit.kind ≡ Exit
    → drop (size_inside 0 (events_of kids ++ exit ∷ es)) (events_of kids ++ exit ∷ es) ≡ exit ∷ es
after_law kids k exit es h =
    ap (λ (z : ℕ). drop z (events_of kids ++ exit ∷ es)) (size_law kids k exit es h) ∙ drop-append_seam (events_of kids) (exit ∷ es)

-- the first of the events of nodes is the first node
pub reads_law : (enter : Event) (kids : Nodes) (exit : Event) (ns : Nodes) (node : Node) (after : List Event) → exit.kind ≡ Exit → AreNodes kids
    → IsFirst (events_of (Cons (Around enter kids exit) ns)) node after → Reads node (Around enter kids exit) × (after ≡ events_of ns)
reads_law enter kids exit ns node after x k h =
    let tail = (events_of kids ++ exit ∷ []) ++ events_of ns in
    let tail_is : tail ≡ events_of kids ++ exit ∷ events_of ns = append_assoc (events_of kids) (exit ∷ []) (events_of ns) in
    let rest : drop (size_inside 0 tail) tail ≡ exit ∷ events_of ns
    = ap (λ (z : List Event). drop (size_inside 0 z) z) tail_is ∙ after_law kids k exit (events_of ns) x in (
      (
        h.0,
        h.1,
        h.2 ∙ ap (λ (z : List Event). spot_of (first_or enter z)) rest,
        h.3 ∙ ap inside tail_is ∙ inside_law kids k exit (events_of ns) x,
      ),
      h.4 ∙ ap (drop 1) rest,
    )
