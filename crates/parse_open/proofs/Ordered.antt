-- Nodes of events that are placed one after another: each stands between the ends of what holds it.
use Rattle.std.proofs.Common.{◌≡◌, ◌≤◌, ℕ, ◌+◌, Bool, true, false, ◌&&◌, ◌||◌, ◌==◌, if◌then◌else◌, List, [], ◌∷◌, ◌++◌, refl, sym, ap}
use Rattle.std.proofs.Common.{subst, ◌∙◌, arith}
use Rattle.std.proofs.lemmas.Bool.{eqb-true, leb-true, ltb-true}
use Rattle.std.specs.Prelude.{nat_lt, nat_le}
use Rattle.parse_open.proofs.Prelude.{AreBetween, Around, Cons, edge, Event, Nil, Node, Nodes, Spot, spot_of}
use Rattle.event_check.proofs.Fits.{split}
use Rattle.event_grammar.specs.InGrammar.{PlacesFit}
use Rattle.event_grammar.specs.Points.{reaches}
use Rattle.event_grammar.specs.Trees.{events_of}

-- each stands between the enter and the exit of what holds it, after the one before it
abbrev mutual
  pub IsOrdered : Node → Type 0
  IsOrdered (Around enter kids exit) = AreBetween (edge (spot_of enter)) kids (edge (spot_of exit)) × AreOrdered kids

  pub AreOrdered : Nodes → Type 0
  AreOrdered Nil = Unit {0}
  AreOrdered (Cons node ns) = IsOrdered node × AreOrdered ns

edges_by : (i j v w : ℕ) (l e m a b : Bool) → nat_lt i j ≡ l → (i == j) ≡ e → nat_le v w ≡ m → (v == 0) ≡ a → (w == 0) ≡ b → (l || (e && m)) ≡ true
    → (if a then i else i + 1) ≤ (if b then j else j + 1)
edges_by i j v w true e m true true p q s h k r = let x = ltb-true i j p in omega arith
edges_by i j v w true e m true false p q s h k r = let x = ltb-true i j p in omega arith
edges_by i j v w true e m false true p q s h k r = let x = ltb-true i j p in omega arith
edges_by i j v w true e m false false p q s h k r = let x = ltb-true i j p in omega arith
edges_by i j v w false true true true true p q s h k r = let x = eqb-true i j q in omega arith
edges_by i j v w false true true true false p q s h k r = let x = eqb-true i j q in omega arith
edges_by i j v w false true true false false p q s h k r = let x = eqb-true i j q in omega arith
edges_by i j v w false true true false true p q s h k r =
    let x = eqb-true w 0 k in
    let y = leb-true v w s in
    let zero : v ≡ 0 = omega arith in
    absurd (let f : true ≡ false = sym (ap (λ (z : ℕ). z == 0) zero) ∙ h in cc)
edges_by i j v w false true false a b p q s h k r = absurd (let f : false ≡ true = r in cc)
edges_by i j v w false false m a b p q s h k r = absurd (let f : false ≡ true = r in cc)

-- a later place has a later edge
edges_reach : (p q : Spot) → reaches p q ≡ true → edge p ≤ edge q
edges_reach p q r =
    edges_by p.index q.index p.vs q.vs (nat_lt p.index q.index) (p.index == q.index) (nat_le p.vs q.vs) (p.vs == 0) (q.vs == 0) refl refl refl refl refl r

between_order : (from to : ℕ) (ns : Nodes) → AreBetween from ns to → from ≤ to
between_order from to Nil h = h
between_order from to (Cons (Around enter kids exit) ns) h =
    let first = h.0 in
    let own = h.1 in
    let others = between_order (edge (spot_of exit)) to ns h.2 in
    omega (arith, first, own, others)

-- after these the next events fit on
pub record FitOn (text : List ℕ) (from : Spot) (ns : Nodes) (es : List Event) : Type 0 where
  pub at : Spot
  pub ordered : AreOrdered ns
  pub up_to : (to : ℕ) → edge at ≤ to → AreBetween (edge from) ns to
  pub fit : PlacesFit text at es

pub fit_over : (text : List ℕ) (ns : Nodes) (from : Spot) (es : List Event) → PlacesFit text from (events_of ns ++ es) → FitOn text from ns es
fit_over text Nil from es h = record { at = from; ordered = tt; up_to = λ to l. l; fit = h }
fit_over text (Cons (Around enter kids exit) ns) from es h =
    let rest = events_of ns ++ es in
    let here : PlacesFit text from (enter ∷ (events_of kids ++ exit ∷ rest)) =
    subst (λ (l : List Event). PlacesFit text from (enter ∷ l)) (split kids ns exit es) h in
    let inner = fit_over text kids (spot_of enter) (exit ∷ rest) here.2 in
    let others = fit_over text ns (spot_of exit) es inner.fit.2 in
    let inside = inner.up_to (edge (spot_of exit)) (edges_reach inner.at (spot_of exit) inner.fit.0) in
    let order = between_order (edge (spot_of enter)) (edge (spot_of exit)) kids inside in
    record {
      at = others.at;
      ordered = ((inside, inner.ordered), others.ordered);
      up_to = λ to l. (edges_reach from (spot_of enter) here.0, order, others.up_to to l);
      fit = others.fit;
    }
