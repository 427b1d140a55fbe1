-- Events, one after another.
use Rattle.std.proofs.Common.{◌≡◌, ℕ, ◌+◌, Bool, true, false, if◌then◌else◌, List, [], ◌∷◌, Option, None, Some, refl, sym, ap, ◌∙◌, subst, zero-le, arith}
use Rattle.event_faults.proofs.Prelude.{Check, column_on, drop_all, Err, Event, EventFault, fault_after, fault_at_end, fault_from, FaultKind, fold}
use Rattle.event_faults.proofs.Prelude.{is_listed, Known, mark_size, mdx_names, moved, next_of, Ok, Passes, phase, phase_at, placed, Result, spot, Spot}
use Rattle.event_faults.proofs.Prelude.{spot_of, StandsAt, step, TakesNone}
use Rattle.std.specs.Prelude.{take}
use Rattle.event_faults.specs.declared.fault.FaultKind.TheVariants.{Mdx, Child, Place}
use Rattle.event_faults.specs.Checks.{is_place}
use Rattle.event_faults.specs.CheckViews.{Steps}
use Rattle.event_faults.proofs.Counts.{Counts, counts_more}
use Rattle.event_faults.proofs.PlaceLaws.{at_start_of}
use Rattle.event_faults.proofs.Spaces.{takes_none_more}

-- the start of a text
no_phase : (bs : List ℕ) → 0 ≡ phase_at bs 0
no_phase bs = ap (λ (z : List ℕ). phase (fold column_on 1 z)) (sym (drop_all (mark_size bs) (take 0 bs) zero-le))

at_zero : (bs : List ℕ) (known : Known) → known.index ≡ 0 → known.phase ≡ 0 → StandsAt bs (spot 0 0) known
at_zero bs known h k =
    record {
      before = omega (arith, h);
      phase_is = k ∙ no_phase bs ∙ ap (phase_at bs) (sym h);
      there = at_start_of bs;
    }

pub stands_first : (bs : List ℕ) (at : Spot) (known : Known) → at ≡ spot 0 0 → known.index ≡ 0 → known.phase ≡ 0 → StandsAt bs at known
stands_first bs at known h i p = subst (λ (z : Spot). StandsAt bs z known) (sym h) (at_zero bs known i p)

module _ (names : List ℕ → Option (List ℕ)) (bytes : List ℕ) where
  pub fault_on : (c next : Check) (n : ℕ) (e : Event) (es : List Event) → step names bytes c e ≡ Ok next
      → fault_from names bytes c n (e ∷ es) ≡ fault_from names bytes next (n + 1) es
  fault_on c next n e es h = ap (λ r. fault_after r n (λ next. fault_from names bytes next (n + 1) es)) h

  ok_is : (a b : Check) → (let r : Result Check FaultKind = Ok a in r ≡ Ok b) → a ≡ b
  ok_is a b h = cc

  no_ok : (A : Type 0) (k : FaultKind) (c : Check) → (let r : Result Check FaultKind = Err k in r ≡ Ok c) → A
  no_ok A k c h = absurd (cc)

  placed_is : (t : Bool) (c next : Check) → placed names bytes t c ≡ Ok next → c ≡ next
  placed_is true c next h = ok_is c next h
  placed_is false c next h = no_ok _ Place next h

  next_is : (c next : Check) (e : Event) (m : Option Check) → next_of names bytes c e m ≡ Ok next → m ≡ Some next
  next_is c next e None h = no_ok _ Child next h
  next_is c next e (Some n) h = ap (λ (z : Check). Some z) (placed_is (is_place names bytes c e) n next h)

  moved_by : (t : Bool) (c next : Check) (e : Event) (m : Option Check) → (if t then Err Mdx else next_of names bytes c e m) ≡ Ok next → m ≡ Some next
  moved_by true c next e m h = no_ok _ Mdx next h
  moved_by false c next e m h = next_is c next e m h

  -- what was moved to where a step goes well
  pub step_moved : (c next : Check) (e : Event) → step names bytes c e ≡ Ok next → moved c e.kind e.name (spot_of e) ≡ Some next
  step_moved c next e h = moved_by (is_listed mdx_names e.name) c next e (moved c e.kind e.name (spot_of e)) h

  went : (o : Option FaultKind) (new : Check) (answer : Result Check FaultKind) → o ≡ None → Steps o new answer → answer ≡ Ok new
  went o new answer h s = subst (λ (z : Option FaultKind). Steps z new answer) h s

  -- one event more: what is left has the same fault
  pub fault_more : (es : List Event) (e : Event) (n m : ℕ) (c new : Check) (found : Option EventFault) (o : Option FaultKind) → m ≡ n + 1
      → o ≡ None → Steps o new (step names bytes c e) → fault_from names bytes c n (e ∷ es) ≡ found → fault_from names bytes new m es ≡ found
  fault_more es e n m c new found o k h s f =
      subst (λ (z : ℕ). fault_from names bytes new z es ≡ found) (sym k)
      (sym (fault_on c new n e es (went o new (step names bytes c e) h s)) ∙ f)

  -- and at most one cell
  pub count_more : (e : Event) (n m : ℕ) (c new : Check) (o : Option FaultKind) → m ≡ n + 1 → o ≡ None → Steps o new (step names bytes c e) → Counts n c
      → Counts m new
  count_more e n m c new o k h s x =
      subst (λ (z : ℕ). Counts z new) (sym k) (counts_more n c new e.kind e.name (spot_of e) x (step_moved c new e (went o new (step names bytes c e) h s)))

  on_two : (n : ℕ) → n + 2 ≡ (n + 1) + 1
  on_two n = omega arith

  -- two events more, which go well
  pub pass_more : (es : List Event) (enter exit : Event) (n m : ℕ) (c new : Check) (found : Option EventFault) → m ≡ n + 2
      → Passes names bytes c enter exit new → fault_from names bytes c n (enter ∷ exit ∷ es) ≡ found → fault_from names bytes new m es ≡ found
  pass_more es enter exit n m c new found k p f =
      fault_more es exit (n + 1) m p.mid new found None (k ∙ on_two n) refl p.exited
      (fault_more (exit ∷ es) enter n (n + 1) c p.mid found None refl refl p.entered f)

  pub pass_count : (enter exit : Event) (n m : ℕ) (c new : Check) → m ≡ n + 2 → Passes names bytes c enter exit new → Counts n c → Counts m new
  pass_count enter exit n m c new k p x =
      count_more exit (n + 1) m p.mid new None (k ∙ on_two n) refl p.exited (count_more enter n (n + 1) c p.mid None refl refl p.entered x)

  -- and no row that takes spaces or line endings
  pub spaces_more : (e : Event) (c new : Check) (o : Option FaultKind) → o ≡ None → Steps o new (step names bytes c e) → TakesNone c → TakesNone new
  spaces_more e c new o h s x = takes_none_more c new e.kind e.name (spot_of e) x (step_moved c new e (went o new (step names bytes c e) h s))

  pub pass_spaces : (enter exit : Event) (c new : Check) → Passes names bytes c enter exit new → TakesNone c → TakesNone new
  pass_spaces enter exit c new p x = spaces_more exit p.mid new None refl p.exited (spaces_more enter c p.mid None refl p.entered x)

  -- no event is left
  pub ended : (es : List Event) (n size : ℕ) (c : Check) (found : Option EventFault) → es ≡ [] → size ≡ n
      → fault_from names bytes c n es ≡ found → fault_at_end c.outer size ≡ found
  ended es n size c found h k e =
      ap (fault_at_end c.outer) k ∙ (sym (ap (fault_from names bytes c n) h) ∙ e)
