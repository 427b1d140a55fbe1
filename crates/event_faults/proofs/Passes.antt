-- Events that hold no other, passed by their enter and their exit at once.
use Rattle.std.proofs.Common.{◌≡◌, ◌∙◌, arith, ℕ, Bool, true, false, not, ◌&&◌, ◌||◌, if◌then◌else◌, List, ◌∷◌, Option, None, Some, refl, sym, ap, subst}
use Rattle.event_faults.proofs.Prelude.{around_it, cell_names, Check, check_at, entered, entered_as, Err, Event, exited_to, Form, innermost, is_listed}
use Rattle.event_faults.proofs.Prelude.{is_spot, is_void, Kind, Known, Leaf, link_names, may_end, may_exit, mdx_names, moved, Name, next_of, Ok, Open, opened}
use Rattle.event_faults.proofs.Prelude.{Passes, placed, reaches, row, same_name, Slot, Spot, spot_of, stands_between, StandsAt, step, take_child, Taken}
use Rattle.event_faults.proofs.Prelude.{the_type, with_child}
use denote.Enum.Bare.{same_true}
use Rattle.engine_events.specs.declared.event.Kind.TheVariants.{Enter, Exit}
use Rattle.engine_events.specs.declared.event.Name.TheVariants as n
use Rattle.event_faults.specs.declared.fault.FaultKind.TheVariants.{Mdx}
use Rattle.event_grammar.specs.declared.slot.Form.TheVariants.{Plain}
use Rattle.event_grammar.specs.Points.{bytes_between}
use Rattle.event_grammar.specs.Facts.{is_fact}
use Rattle.event_faults.specs.Checks.{limit_of, has_limit, is_limit, exited}
use Rattle.event_faults.specs.Checks.{fact_at}
use Rattle.event_grammar.specs.Trees.{is_enter, is_pair}
use Rattle.event_faults.proofs.PlaceLaws.{reaches_index}
use Rattle.event_grammar.proofs.Alone.{IsAlone, alone}

-- ---- two events

both : (a b : Bool) → (a && b) ≡ true → (a ≡ true) × (b ≡ true)
both true true h = (refl, refl)
both true false h = absurd (let f : false ≡ true = h in cc)
both false b h = absurd (let f : false ≡ true = h in cc)

all_three : (a b f : Bool) → (a && b) ≡ true → f ≡ true → (a && b && f) ≡ true
all_three true true true h k = refl
all_three true true false h k = k
all_three true false f h k = absurd (let f : false ≡ true = h in cc)
all_three false b f h k = absurd (let f : false ≡ true = h in cc)

enters : (kind : Kind) → is_enter kind ≡ true → kind ≡ Enter
enters Enter h = refl
enters Exit h = absurd (let f : false ≡ true = h in cc)

exits : (kind : Kind) → not (is_enter kind) ≡ true → kind ≡ Exit
exits Exit h = refl
exits Enter h = absurd (let f : false ≡ true = h in cc)

record Pair (enter exit : Event) : Type 0 where
  enter_kind : enter.kind ≡ Enter
  exit_kind : exit.kind ≡ Exit
  name_is : exit.name ≡ enter.name

pair_of : (enter exit : Event) → is_pair enter exit ≡ true → Pair enter exit
pair_of enter exit h =
    let p = both (is_enter enter.kind) (not (is_enter exit.kind) && same_name enter.name exit.name) h in
    let q = both (not (is_enter exit.kind)) (same_name enter.name exit.name) p.1 in
    record { enter_kind = enters enter.kind p.0; exit_kind = exits exit.kind q.0; name_is = sym (same_true the_type tt enter.name exit.name q.1) }

pub names_of : (enter exit : Event) → is_pair enter exit ≡ true → exit.name ≡ enter.name
names_of enter exit h = (pair_of enter exit h).name_is

same_self : (name other : Name) → same_name name other ≡ true → other ≡ name → same_name name name ≡ true
same_self name other h e = sym (ap (same_name name) e) ∙ h

-- ---- what an event without a row is entered and exited by

unbarred : (a b c d : Bool) → b ≡ false → c ≡ false → ((a && b) || (c && d)) ≡ false
unbarred true b c d h k = ap (λ (z : Bool). z || (c && d)) h ∙ ap (λ (z : Bool). z && d) k
unbarred false b c d h k = ap (λ (z : Bool). z && d) k

enter_alone : (o after : Open) (os : List Open) (from at : Spot) (name : Name) (form : Form) → IsAlone name
    → entered_as (check_at o os from) at name (take_child o.rest name) ≡ Some (check_at (opened o name form at) (after ∷ os) at)
    → entered (check_at o os from) at name ≡ Some (check_at (opened o name form at) (after ∷ os) at)
enter_alone o after os from at name form a h =
    ap (λ (b : Bool). if b then None else entered_as (check_at o os from) at name (take_child o.rest name))
    (unbarred o.linked (is_listed link_names name) (is_listed cell_names name) (is_limit o.limit o.cells) a.link a.cell)
    ∙ h

no_limit : (b : Bool) (above : ℕ) → b ≡ false → has_limit (if b then Some above else None) 0 ≡ true
no_limit b above h = ap (λ (z : Bool). has_limit (if z then Some above else None) 0) h

may_end_alone : (o : Open) (at : Spot) (name : Name) (form : Form) → IsAlone name → same_name name name ≡ true → may_exit (opened o name form at) name ≡ true
may_end_alone o at name form a s =
    ap (λ (z : Bool). z && may_end (row name form) && has_limit (limit_of o name) 0) s
    ∙ ap (λ (z : List Slot). may_end z && has_limit (limit_of o name) 0) (a.row_is form)
    ∙ no_limit (same_name name n.GfmTableDelimiterRow) o.above a.delimiter

exit_alone : (o after : Open) (os : List Open) (from at to : Spot) (name : Name) (form : Form) → IsAlone name → same_name name name ≡ true
    → exited (check_at (opened o name form at) (after ∷ os) from) to name ≡ Some (check_at after os to)
exit_alone o after os from at to name form a s =
    ap (λ (b : Bool). if b then exited_to (check_at (opened o name form at) (after ∷ os) from) to name (after ∷ os) else None)
    (may_end_alone o at name form a s)
    ∙ ap (λ (b : Bool). Some (check_at (record after { above = if b then 0 else after.above }) os to)) a.head

-- ---- by what may stand

taken_alone : (o after : Open) (os : List Open) (from at : Spot) (name : Name) (t : Taken) → take_child o.rest name ≡ Some t → after ≡ with_child o name t.rest
    → entered_as (check_at o os from) at name (take_child o.rest name) ≡ Some (check_at (opened o name t.form at) (after ∷ os) at)
taken_alone o after os from at name t h k =
    ap (entered_as (check_at o os from) at name) h ∙ ap (λ (z : Open). Some (check_at (opened o name t.form at) (z ∷ os) at)) (sym k)

between_alone : (o : Open) (os : List Open) (from at : Spot) (name : Name) → take_child o.rest name ≡ None → stands_between o.around name ≡ true
    → entered_as (check_at o os from) at name (take_child o.rest name) ≡ Some (check_at (opened o name Plain at) (o ∷ os) at)
between_alone o os from at name h k =
    ap (entered_as (check_at o os from) at name) h
    ∙ ap (λ (b : Bool). if b then Some (check_at (opened o name Plain at) (o ∷ os) at) else None) k

-- ---- steps

module _ (names : List ℕ → Option (List ℕ)) (bytes : List ℕ) where
  step_ok : (c next : Check) (e : Event) → is_listed mdx_names e.name ≡ false → moved c e.kind e.name (spot_of e) ≡ Some next
      → (reaches c.spot (spot_of e) && is_spot bytes (spot_of e)) ≡ true → fact_at names bytes c.inner e.kind e.name (spot_of e) ≡ true
      → step names bytes c e ≡ Ok next
  step_ok c next e x m p f =
      ap (λ (b : Bool). if b then Err Mdx else next_of names bytes c e (moved c e.kind e.name (spot_of e))) x
      ∙ (ap (next_of names bytes c e) m
      ∙ ap (λ (t : Bool). placed names bytes t next)
      (all_three (reaches c.spot (spot_of e)) (is_spot bytes (spot_of e)) (fact_at names bytes c.inner e.kind e.name (spot_of e)) p f))

  passes_open : (o after : Open) (os : List Open) (from : Spot) (enter exit : Event) (form : Form) → is_pair enter exit ≡ true → is_void enter.name ≡ true
      → entered_as (check_at o os from) (spot_of enter) enter.name (take_child o.rest enter.name)
      ≡ Some (check_at (opened o enter.name form (spot_of enter)) (after ∷ os) (spot_of enter))
      → (reaches from (spot_of enter) && is_spot bytes (spot_of enter)) ≡ true
      → (reaches (spot_of enter) (spot_of exit) && is_spot bytes (spot_of exit)) ≡ true
      → is_fact names enter.name form o.last (bytes_between bytes (spot_of enter) (spot_of exit)) ≡ true
      → Passes names bytes (check_at o os from) enter exit (check_at after os (spot_of exit))
  passes_open o after os from enter exit form h v s p q f =
      let name = enter.name in
      let a = alone name v in
      let pair = pair_of enter exit h in
      let mid = check_at (opened o name form (spot_of enter)) (after ∷ os) (spot_of enter) in
      let own = same_self name exit.name ((both (not (is_enter exit.kind)) (same_name name exit.name)
      ((both (is_enter enter.kind) (not (is_enter exit.kind) && same_name name exit.name) h).1)).1) pair.name_is in
      record {
        mid = mid;
        entered = step_ok (check_at o os from) mid enter a.mdx
            (ap (λ (k : Kind). moved (check_at o os from) k name (spot_of enter)) pair.enter_kind ∙ enter_alone o after os from (spot_of enter) name form a s)
            p (ap (λ (k : Kind). fact_at names bytes o k name (spot_of enter)) pair.enter_kind);
        exited = step_ok mid (check_at after os (spot_of exit)) exit (ap (is_listed mdx_names) pair.name_is ∙ a.mdx)
            (ap (λ (k : Kind). moved mid k exit.name (spot_of exit)) pair.exit_kind
            ∙ (ap (exited mid (spot_of exit)) pair.name_is ∙ exit_alone o after os (spot_of enter) (spot_of enter) (spot_of exit) name form a own))
            q (ap (λ (k : Kind). fact_at names bytes mid.inner k exit.name (spot_of exit)) pair.exit_kind
            ∙ (ap (λ (z : Name). is_fact names z form o.last (bytes_between bytes (spot_of enter) (spot_of exit))) pair.name_is ∙ f));
      }

  not_none : (A : Type 0) (x : Leaf) → Some x ≡ None → A
  not_none A x h = absurd (let f : Some x ≡ None = h in cc)

  passes : (l : Option Leaf) (o after : Open) (os : List Open) (from : Spot) (enter exit : Event) (form : Form) → l ≡ None
      → is_pair enter exit ≡ true → is_void enter.name ≡ true
      → entered_as (check_at o os from) (spot_of enter) enter.name (take_child o.rest enter.name)
      ≡ Some (check_at (opened o enter.name form (spot_of enter)) (after ∷ os) (spot_of enter))
      → (reaches from (spot_of enter) && is_spot bytes (spot_of enter)) ≡ true
      → (reaches (spot_of enter) (spot_of exit) && is_spot bytes (spot_of exit)) ≡ true
      → is_fact names enter.name form o.last (bytes_between bytes (spot_of enter) (spot_of exit)) ≡ true
      → Passes names bytes (check_at (innermost l o) (around_it l o os) from) enter exit (check_at (innermost l after) (around_it l after os) (spot_of exit))
  passes None o after os from enter exit form e h v s p q f = passes_open o after os from enter exit form h v s p q f
  passes (Some x) o after os from enter exit form e h v s p q f = not_none _ x e

  -- where the last of two places is
  pub stands_on : (from start end : Spot) (known : Known) → StandsAt bytes from known
      → (reaches from start && is_spot bytes start) ≡ true → (reaches start end && is_spot bytes end) ≡ true → StandsAt bytes end known
  stands_on from start end known s p q =
      let a = reaches_index from start ((both (reaches from start) (is_spot bytes start) p).0) in
      let b = reaches_index start end ((both (reaches start end) (is_spot bytes end) q).0) in
      let k = s.before in
      record { before = omega arith; phase_is = s.phase_is; there = (both (reaches start end) (is_spot bytes end) q).1 }

  -- one place on, as it is kept
  pub stands_next : (from at new : Spot) (known kept : Known) → StandsAt bytes from known → (reaches from at && is_spot bytes at) ≡ true
      → new ≡ at → kept ≡ known → StandsAt bytes new kept
  stands_next from at new known kept s p h k =
      let a = reaches_index from at ((both (reaches from at) (is_spot bytes at) p).0) in
      let b = s.before in
      subst (λ z. StandsAt bytes z kept) (sym h)
      (subst (λ z. StandsAt bytes at z) (sym k) (record { before = omega arith; phase_is = s.phase_is; there = (both (reaches from at) (is_spot bytes at) p).1 }))

  -- the same by what stands there, and by the places that were read
  by_spots : (l : Option Leaf) (o after : Open) (os : List Open) (from start end : Spot) (enter exit : Event) (form : Form) → l ≡ None
      → start ≡ spot_of enter → end ≡ spot_of exit → is_pair enter exit ≡ true → is_void enter.name ≡ true
      → entered_as (check_at o os from) (spot_of enter) enter.name (take_child o.rest enter.name)
      ≡ Some (check_at (opened o enter.name form (spot_of enter)) (after ∷ os) (spot_of enter))
      → (reaches from start && is_spot bytes start) ≡ true → (reaches start end && is_spot bytes end) ≡ true
      → is_fact names enter.name form o.last (bytes_between bytes start end) ≡ true
      → Passes names bytes (check_at (innermost l o) (around_it l o os) from) enter exit (check_at (innermost l after) (around_it l after os) end)
  by_spots l o after os from start end enter exit form e a b h v s p q f =
      subst (λ (z : Spot). Passes names bytes (check_at (innermost l o) (around_it l o os) from) enter exit
      (check_at (innermost l after) (around_it l after os) z)) (sym b)
      (passes l o after os from enter exit form e h v s
      (sym (ap (λ (z : Spot). reaches from z && is_spot bytes z) a) ∙ p)
      (sym (ap (λ (z : Spot). reaches z end && is_spot bytes end) a ∙ ap (λ (z : Spot). reaches (spot_of enter) z && is_spot bytes z) b) ∙ q)
      (sym (ap (λ (z : Spot). is_fact names enter.name form o.last (bytes_between bytes z end)) a
      ∙ ap (λ (z : Spot). is_fact names enter.name form o.last (bytes_between bytes (spot_of enter) z)) b) ∙ f))

  pub passes_taken : (l : Option Leaf) (o after : Open) (os : List Open) (from start end : Spot) (enter exit : Event) (t : Taken) → l ≡ None
      → start ≡ spot_of enter → end ≡ spot_of exit → is_pair enter exit ≡ true → is_void enter.name ≡ true
      → take_child o.rest enter.name ≡ Some t → after ≡ with_child o enter.name t.rest
      → (reaches from start && is_spot bytes start) ≡ true → (reaches start end && is_spot bytes end) ≡ true
      → is_fact names enter.name t.form o.last (bytes_between bytes start end) ≡ true
      → Passes names bytes (check_at (innermost l o) (around_it l o os) from) enter exit (check_at (innermost l after) (around_it l after os) end)
  passes_taken l o after os from start end enter exit t e a b h v k w p q f =
      by_spots l o after os from start end enter exit t.form e a b h v (taken_alone o after os from (spot_of enter) enter.name t k w) p q f

  pub passes_between : (l : Option Leaf) (o : Open) (os : List Open) (from start end : Spot) (enter exit : Event) → l ≡ None
      → start ≡ spot_of enter → end ≡ spot_of exit → is_pair enter exit ≡ true → is_void enter.name ≡ true
      → take_child o.rest enter.name ≡ None → stands_between o.around enter.name ≡ true
      → (reaches from start && is_spot bytes start) ≡ true → (reaches start end && is_spot bytes end) ≡ true
      → is_fact names enter.name Plain o.last (bytes_between bytes start end) ≡ true
      → Passes names bytes (check_at (innermost l o) (around_it l o os) from) enter exit (check_at (innermost l o) (around_it l o os) end)
  passes_between l o os from start end enter exit e a b h v k w p q f =
      by_spots l o o os from start end enter exit Plain e a b h v (between_alone o os from (spot_of enter) enter.name k w) p q f
