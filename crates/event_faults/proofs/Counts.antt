-- There are no more cells than events.
use Rattle.std.proofs.Common.{◌≡◌, ◌≤◌, ℕ, ◌+◌, Bool, true, false, if◌then◌else◌, List, [], ◌∷◌, Option, None, Some, subst, zero-le, arith}
use Rattle.event_faults.proofs.Prelude.{cell_names, Check, check_at, entered_as, exited_to, is_barred, is_listed, Kind, may_exit, moved, Name, Open, opened}
use Rattle.event_faults.proofs.Prelude.{Spot, stands_between, take_child, Taken, with_above, with_child}
use Rattle.engine_events.specs.declared.event.Kind.TheVariants.{Enter, Exit}
use Rattle.event_grammar.specs.declared.slot.Form.TheVariants.{Plain}

-- each of these has at most so many cells
abbrev pub AreCounted : ℕ → List Open → Type 0
AreCounted n [] = Unit {0}
AreCounted n (o ∷ os) = (o.cells ≤ n) × AreCounted n os

pub record Counts (n : ℕ) (c : Check) : Type 0 where
  pub inner : c.inner.cells ≤ n
  pub outer : AreCounted n c.outer

later : (n : ℕ) (os : List Open) → AreCounted n os → AreCounted (n + 1) os
later n [] h = tt
later n (o ∷ os) h = (let l = h.0 in omega arith, later n os h.1)

one_more : (t : Bool) (n k : ℕ) → k ≤ n → (if t then k + 1 else k) ≤ n + 1
one_more true n k h = omega arith
one_more false n k h = omega arith

either : (t : Bool) (n j k : ℕ) → j ≤ n → k ≤ n → (if t then j else k) ≤ n + 1
either true n j k h l = omega arith
either false n j k h l = omega arith

none_some : (A : Type 0) (c : Check) → None ≡ Some c → A
none_some A c h = absurd (let f : None ≡ Some c = h in cc)

some_is : (b c : Check) → Some b ≡ Some c → b ≡ c
some_is b c h = cc

between_by : (t : Bool) (n : ℕ) (c next : Check) (at : Spot) (name : Name) → Counts n c
    → (if t then Some (check_at (opened c.inner name Plain at) (c.inner ∷ c.outer) at) else None) ≡ Some next → Counts (n + 1) next
between_by true n c next at name k e =
    subst (Counts (n + 1)) (some_is (check_at (opened c.inner name Plain at) (c.inner ∷ c.outer) at) next e)
    (record { inner = zero-le; outer = (let l = k.inner in omega arith, later n c.outer k.outer) })
between_by false n c next at name k e = none_some _ next e

enters : (n : ℕ) (c next : Check) (at : Spot) (name : Name) (t : Option Taken) → Counts n c → entered_as c at name t ≡ Some next → Counts (n + 1) next
enters n c next at name (Some t) k e =
    subst (Counts (n + 1)) (some_is (check_at (opened c.inner name t.form at) (with_child c.inner name t.rest ∷ c.outer) at) next e)
    (record { inner = zero-le; outer = (one_more (is_listed cell_names name) n c.inner.cells k.inner, later n c.outer k.outer) })
enters n c next at name None k e = between_by (stands_between c.inner.around name) n c next at name k e

enter_by : (t : Bool) (n : ℕ) (c next : Check) (at : Spot) (name : Name) → Counts n c
    → (if t then None else entered_as c at name (take_child c.inner.rest name)) ≡ Some next → Counts (n + 1) next
enter_by true n c next at name k e = none_some _ next e
enter_by false n c next at name k e = enters n c next at name (take_child c.inner.rest name) k e

exits : (n : ℕ) (c next : Check) (at : Spot) (name : Name) (outer : List Open) → c.inner.cells ≤ n → AreCounted n outer
    → exited_to c at name outer ≡ Some next → Counts (n + 1) next
exits n c next at name [] i k e = none_some _ next e
exits n c next at name (o ∷ outer) i k e =
    subst (Counts (n + 1)) (some_is (check_at (with_above o name c.inner.cells) outer at) next e)
    (record { inner = (let l = k.0 in omega arith); outer = later n outer k.1 })

exit_by : (t : Bool) (n : ℕ) (c next : Check) (at : Spot) (name : Name) → Counts n c
    → (if t then exited_to c at name c.outer else None) ≡ Some next → Counts (n + 1) next
exit_by false n c next at name k e = none_some _ next e
exit_by true n c next at name k e = exits n c next at name c.outer k.inner k.outer e

pub counts_more : (n : ℕ) (c next : Check) (kind : Kind) (name : Name) (at : Spot) → Counts n c → moved c kind name at ≡ Some next → Counts (n + 1) next
counts_more n c next Enter name at k e = enter_by (is_barred c.inner name) n c next at name k e
counts_more n c next Exit name at k e = exit_by (may_exit c.inner name) n c next at name k e
