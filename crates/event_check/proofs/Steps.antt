-- One event: what it asks where it may stand.
use Rattle.std.proofs.Common.{◌≡◌, ℕ, ◌+◌, Bool, true, false, ◌&&◌, if◌then◌else◌, ◌⊎◌, inl, inr, List, ◌∷◌, Option, None, Some, refl, sym, ap, ◌∙◌}
use Rattle.std.specs.Prelude.{Result, Ok, Err}
use Rattle.event_check.proofs.Prelude.{and_parts, Check, check_at, entered, Event, event_fault, EventFault, exited, fact_at, fault_from, Form, is_barred}
use Rattle.event_check.proofs.Prelude.{is_listed, may_exit, mdx_names, moved, Name, Open, opened, Spot, spot_of, stands_between, take_child, Taken, with_above}
use Rattle.event_check.proofs.Prelude.{with_child}
use Rattle.event_faults.specs.declared.fault.FaultKind.{FaultKind}
use Rattle.event_faults.specs.declared.fault.FaultKind.TheVariants as kinds
use Rattle.event_grammar.specs.declared.slot.Form.TheVariants.{Plain}
use Rattle.event_grammar.specs.Points.{reaches, is_spot}
use Rattle.event_faults.specs.Checks.{step, next_of, placed, is_place, entered_as}
use Rattle.event_faults.specs.Faults.{fault_after}

no : (A : Type 0) (c : Check) → (let o : Option Check = None in o ≡ Some c) → A
no A c h = absurd (cc)

is : (a b : Check) → Some a ≡ Some b → a ≡ b
is a b h = cc

no_ok : (A : Type 0) (k : FaultKind) (c : Check) → (let r : Result Check FaultKind = Err k in r ≡ Ok c) → A
no_ok A k c h = absurd (cc)

ok_is : (a b : Check) → (let r : Result Check FaultKind = Ok a in r ≡ Ok b) → a ≡ b
ok_is a b h = cc

pub no_fault : (A : Type 0) (f : EventFault) → Some f ≡ None → A
no_fault A f h = absurd (let k : Some f ≡ None = h in cc)

-- ---- a child that is entered

-- the row takes it, or it stands between
abbrev pub Taking : Open → Name → Form → Open → Type 0
Taking o name form after = (t : Taken) × (take_child o.rest name ≡ Some t) × (form ≡ t.form) × (after ≡ with_child o name t.rest)

abbrev pub Passing : Open → Name → Form → Open → Type 0
Passing o name form after = (take_child o.rest name ≡ None) × (stands_between o.around name ≡ true) × (form ≡ Plain) × (after ≡ o)

pub record Enters (o : Open) (outer : List Open) (name : Name) (at : Spot) (next : Check) : Type 0 where
  pub form : Form
  pub after : Open
  pub free : is_barred o name ≡ false
  pub way : Taking o name form after ⊎ Passing o name form after
  pub next_is : next ≡ check_at (opened o name form at) (after ∷ outer) at

module _ (o : Open) (outer : List Open) (name : Name) (at from : Spot) (next : Check) where
  between_by : (b : Bool) → is_barred o name ≡ false → take_child o.rest name ≡ None → stands_between o.around name ≡ b
      → (if b then Some (check_at (opened o name Plain at) (o ∷ outer) at) else None) ≡ Some next → Enters o outer name at next
  between_by true f t s h =
      record { form = Plain; after = o; free = f; way = inr (t, s, refl, refl); next_is = sym (is (check_at (opened o name Plain at) (o ∷ outer) at) next h) }
  between_by false f t s h = no _ next h

  enters_as : (t : Option Taken) → is_barred o name ≡ false → take_child o.rest name ≡ t
      → entered_as (check_at o outer from) at name t ≡ Some next → Enters o outer name at next
  enters_as (Some t) f e h =
      record {
        form = t.form;
        after = with_child o name t.rest;
        free = f;
        way = inl (t, e, refl, refl);
        next_is = sym (is (check_at (opened o name t.form at) (with_child o name t.rest ∷ outer) at) next h);
      }
  enters_as None f e h = between_by (stands_between o.around name) f e refl h

  enters_by : (b : Bool) → is_barred o name ≡ b
      → (if b then None else entered_as (check_at o outer from) at name (take_child o.rest name)) ≡ Some next → Enters o outer name at next
  enters_by true f h = no _ next h
  enters_by false f h = enters_as (take_child o.rest name) f refl h

  pub enters : entered (check_at o outer from) at name ≡ Some next → Enters o outer name at next
  enters h = enters_by (is_barred o name) refl h

-- and the other way
pub enters_back : (o : Open) (outer : List Open) (name : Name) (at from : Spot) (form : Form) (after : Open) → is_barred o name ≡ false
    → Taking o name form after ⊎ Passing o name form after
    → entered (check_at o outer from) at name ≡ Some (check_at (opened o name form at) (after ∷ outer) at)
enters_back o outer name at from form after f (inl w) =
    ap (λ (b : Bool). if b then None else entered_as (check_at o outer from) at name (take_child o.rest name)) f
    ∙ ap (entered_as (check_at o outer from) at name) w.1
    ∙ ap (λ (z : Form). Some (check_at (opened o name z at) (with_child o name w.0.rest ∷ outer) at)) (sym w.2)
    ∙ ap (λ (z : Open). Some (check_at (opened o name form at) (z ∷ outer) at)) (sym w.3)
enters_back o outer name at from form after f (inr w) =
    ap (λ (b : Bool). if b then None else entered_as (check_at o outer from) at name (take_child o.rest name)) f
    ∙ ap (entered_as (check_at o outer from) at name) w.0
    ∙ ap (λ (b : Bool). if b then Some (check_at (opened o name Plain at) (o ∷ outer) at) else None) w.1
    ∙ ap (λ (z : Form). Some (check_at (opened o name z at) (o ∷ outer) at)) (sym w.2)
    ∙ ap (λ (z : Open). Some (check_at (opened o name form at) (z ∷ outer) at)) (sym w.3)

-- ---- an exit

pub record Exits (k o : Open) (outer : List Open) (name : Name) (at : Spot) (next : Check) : Type 0 where
  pub may : may_exit k name ≡ true
  pub next_is : next ≡ check_at (with_above o name k.cells) outer at

exits_by : (b : Bool) (k o : Open) (outer : List Open) (name : Name) (at : Spot) (next : Check) → may_exit k name ≡ b
    → (if b then Some (check_at (with_above o name k.cells) outer at) else None) ≡ Some next → Exits k o outer name at next
exits_by true k o outer name at next m h = record { may = m; next_is = sym (is (check_at (with_above o name k.cells) outer at) next h) }
exits_by false k o outer name at next m h = no _ next h

pub exits : (k o : Open) (outer : List Open) (name : Name) (from at : Spot) (next : Check)
    → exited (check_at k (o ∷ outer) from) at name ≡ Some next → Exits k o outer name at next
exits k o outer name from at next h = exits_by (may_exit k name) k o outer name at next refl h

pub exits_back : (k o : Open) (outer : List Open) (name : Name) (from at : Spot) → may_exit k name ≡ true
    → exited (check_at k (o ∷ outer) from) at name ≡ Some (check_at (with_above o name k.cells) outer at)
exits_back k o outer name from at m = ap (λ (b : Bool). if b then Some (check_at (with_above o name k.cells) outer at) else None) m

-- ---- an event

module _ (names : List ℕ → Option (List ℕ)) (bytes : List ℕ) where
  -- what is asked of an event that may stand, and what is open then
  pub record Stands (c : Check) (e : Event) (next : Check) : Type 0 where
    pub known : is_listed mdx_names e.name ≡ false
    pub goes : moved c e.kind e.name (spot_of e) ≡ Some next
    pub later : reaches c.spot (spot_of e) ≡ true
    pub spot : is_spot bytes (spot_of e) ≡ true
    pub fact : fact_at names bytes c.inner e.kind e.name (spot_of e) ≡ true

  abbrev answer : Bool → Check → Event → Option Check → Result Check FaultKind
  answer b c e m = if b then Err kinds.Mdx else next_of names bytes c e m

  stands_at : (t : Bool) (c n next : Check) (e : Event) → is_listed mdx_names e.name ≡ false → moved c e.kind e.name (spot_of e) ≡ Some n
      → is_place names bytes c e ≡ t → placed names bytes t n ≡ Ok next → Stands c e next
  stands_at false c n next e k g p h = no_ok _ kinds.Place next h
  stands_at true c n next e k g p h =
      let first = and_parts (reaches c.spot (spot_of e) && is_spot bytes (spot_of e)) (fact_at names bytes c.inner e.kind e.name (spot_of e)) p in
      let second = and_parts (reaches c.spot (spot_of e)) (is_spot bytes (spot_of e)) first.0 in
      record { known = k; goes = g ∙ ap (λ (z : Check). Some z) (ok_is n next h); later = second.0; spot = second.1; fact = first.1 }

  stands_by : (b : Bool) (m : Option Check) (c next : Check) (e : Event) → is_listed mdx_names e.name ≡ b → moved c e.kind e.name (spot_of e) ≡ m
      → answer b c e m ≡ Ok next → Stands c e next
  stands_by true m c next e k g h = no_ok _ kinds.Mdx next h
  stands_by false None c next e k g h = no_ok _ kinds.Child next h
  stands_by false (Some n) c next e k g h = stands_at (is_place names bytes c e) c n next e k g refl h

  pub stands : (c next : Check) (e : Event) → step names bytes c e ≡ Ok next → Stands c e next
  stands c next e h = stands_by (is_listed mdx_names e.name) (moved c e.kind e.name (spot_of e)) c next e refl refl h

  pub stands_back : (c next : Check) (e : Event) → Stands c e next → step names bytes c e ≡ Ok next
  stands_back c next e s =
      ap (λ (b : Bool). answer b c e (moved c e.kind e.name (spot_of e))) s.known
      ∙ ap (λ (m : Option Check). answer false c e m) s.goes
      ∙ ap (λ (b : Bool). placed names bytes (b && is_spot bytes (spot_of e) && fact_at names bytes c.inner e.kind e.name (spot_of e)) next) s.later
      ∙ ap (λ (b : Bool). placed names bytes (b && fact_at names bytes c.inner e.kind e.name (spot_of e)) next) s.spot
      ∙ ap (λ (b : Bool). placed names bytes b next) s.fact

  -- ---- events without a fault

  pub record Goes (c : Check) (i : ℕ) (e : Event) (es : List Event) : Type 0 where
    pub next : Check
    pub stands : Stands c e next
    pub others : fault_from names bytes next (i + 1) es ≡ None

  goes_by : (r : Result Check FaultKind) (c : Check) (i : ℕ) (e : Event) (es : List Event) → step names bytes c e ≡ r
      → fault_after r i (λ next. fault_from names bytes next (i + 1) es) ≡ None → Goes c i e es
  goes_by (Err kind) c i e es s h = no_fault _ (event_fault kind i) h
  goes_by (Ok next) c i e es s h = record { next = next; stands = stands c next e s; others = h }

  pub goes_on : (c : Check) (i : ℕ) (e : Event) (es : List Event) → fault_from names bytes c i (e ∷ es) ≡ None → Goes c i e es
  goes_on c i e es h = goes_by (step names bytes c e) c i e es refl h

  pub goes_back : (c next : Check) (i : ℕ) (e : Event) (es : List Event) → Stands c e next
      → fault_from names bytes c i (e ∷ es) ≡ fault_from names bytes next (i + 1) es
  goes_back c next i e es s =
      ap (λ (r : Result Check FaultKind). fault_after r i (λ next. fault_from names bytes next (i + 1) es)) (stands_back c next e s)
