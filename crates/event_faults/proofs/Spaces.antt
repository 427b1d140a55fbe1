-- Spaces and line endings stand between the children of a row; they are none of them.
use Rattle.std.proofs.Common.{◌≡◌, ◌∙◌, Bool, true, false, not, ◌&&◌, ◌||◌, if◌then◌else◌, List, [], ◌∷◌, Option, None, Some, refl, sym, ap, subst}
use denote.Enum.Bare.{same_true}
use Rattle.event_faults.proofs.Prelude.{around_it, asks_others, Check, check_at, Child, child_of, ending_names, entered_as, exited_to, Form, has, innermost}
use Rattle.event_faults.proofs.Prelude.{is_barred, is_listed, is_void, Kind, Leaf, may_exit, moved, Name, Open, opened, row, same_name, Slot, space_names}
use Rattle.event_faults.proofs.Prelude.{Spot, stands_between, take_child, taken, Taken, TakesNone, the_type, void_by, void_of, with_above, with_child}
use Rattle.engine_events.specs.declared.event.Kind.TheVariants.{Enter, Exit}
use Rattle.engine_events.specs.declared.event.Name.TheVariants as n
use Rattle.event_grammar.specs.declared.slot.Form.TheVariants.{Plain}
use Rattle.event_grammar.specs.declared.slot.Slot.TheVariants.{One, Opt, Lead, Many}
use Rattle.event_faults.specs.Spaces.{space_or_ending, takes_none, take_none, AllTakeNone}
use Rattle.event_grammar.specs.Voids.{is_between}
use Rattle.event_grammar.specs.declared.names.Void.{Void}
use Rattle.event_grammar.specs.declared.slot.Between.{Between}
use Rattle.event_grammar.specs.declared.slot.Between.TheVariants.{Nothing, Spaces, Lines}
use Rattle.event_grammar.proofs.EveryName.{of_each_form}
use Rattle.event_grammar.proofs.NameRules.{of_two}

-- ---- rows

pub rows_take_none : (name : Name) (form : Form) → take_none (row name form) ≡ true
rows_take_none name form = of_each_form (λ name form. take_none (row name form)) refl name form

-- ---- what a row without them takes

both : (a b : Bool) → (a && b) ≡ true → (a ≡ true) × (b ≡ true)
both true true h = (refl, refl)
both true false h = absurd (let f : false ≡ true = h in cc)
both false b h = absurd (let f : false ≡ true = h in cc)

no : (b : Bool) → not b ≡ true → b ≡ false
no true h = absurd (let f : false ≡ true = h in cc)
no false h = refl

one_of : (a b c : Bool) (A : Type 0) → (a || (b || (c || false))) ≡ true → (a ≡ true → A) → (b ≡ true → A) → (c ≡ true → A) → A
one_of true b c A h f g k = f refl
one_of false true c A h f g k = g refl
one_of false false true A h f g k = k refl
one_of false false false A h f g k = absurd (let z : false ≡ true = h in cc)

has_none : (child : Child) (name : Name) → takes_none child ≡ true → is_listed space_or_ending name ≡ true → has child name ≡ false
has_none child name h l =
    let p = both (not (has child n.SpaceOrTab)) (not (has child n.LineEnding) && not (has child n.BlankLineEnding)) h in
    let q = both (not (has child n.LineEnding)) (not (has child n.BlankLineEnding)) p.1 in
    one_of (same_name n.SpaceOrTab name) (same_name n.LineEnding name) (same_name n.BlankLineEnding name) (has child name ≡ false) l
    (λ k. subst (λ z. has child z ≡ false) (same_true the_type tt n.SpaceOrTab name k) (no (has child n.SpaceOrTab) p.0))
    (λ k. subst (λ z. has child z ≡ false) (same_true the_type tt n.LineEnding name k) (no (has child n.LineEnding) q.0))
    (λ k. subst (λ z. has child z ≡ false) (same_true the_type tt n.BlankLineEnding name k) (no (has child n.BlankLineEnding) q.1))

if_not : (t : Bool) (x y z : Option Taken) → t ≡ false → y ≡ z → (if t then x else y) ≡ z
if_not false x y z h e = e
if_not true x y z h e = absurd (let f : true ≡ false = h in cc)

pub not_taken : (slots : List Slot) (name : Name) → take_none slots ≡ true → is_listed space_or_ending name ≡ true → take_child slots name ≡ None
not_taken [] name h l = refl
not_taken (One child ∷ slots) name h l = if_not _ _ _ _ (has_none child name (both (takes_none child) (take_none slots) h).0 l) refl
not_taken (Opt child ∷ slots) name h l =
    let p = both (takes_none child) (take_none slots) h in
    if_not _ _ _ _ (has_none child name p.0 l) (not_taken slots name p.1 l)
not_taken (Many child ∷ slots) name h l =
    let p = both (takes_none child) (take_none slots) h in
    if_not _ _ _ _ (has_none child name p.0 l) (not_taken slots name p.1 l)
not_taken (Lead child ∷ []) name h l = if_not _ _ _ _ (has_none child name (both (takes_none child) true h).0 l) refl
not_taken (Lead child ∷ slot ∷ slots) name h l =
    let p = both (takes_none child) (takes_none (child_of slot) && take_none slots) h in
    if_not _ _ _ _ (has_none child name p.0 l) (not_taken slots name (both (takes_none (child_of slot)) (take_none slots) p.1).1 l)

-- what is left after a child that was taken
some_is : (x y : Taken) → Some x ≡ Some y → x ≡ y
some_is x y h = cc

no_some : (A : Type 0) (t : Taken) → None ≡ Some t → A
no_some A t h = absurd (let f : None ≡ Some t = h in cc)

left_if : (b : Bool) (x t : Taken) (y : Option Taken) → (if b then Some x else y) ≡ Some t → take_none x.rest ≡ true → (y ≡ Some t → take_none t.rest ≡ true)
    → take_none t.rest ≡ true
left_if true x t y e h k = subst (λ (z : Taken). take_none z.rest ≡ true) (some_is x t e) h
left_if false x t y e h k = k e

pub left_after : (slots : List Slot) (name : Name) (t : Taken) → take_none slots ≡ true → take_child slots name ≡ Some t → take_none t.rest ≡ true
left_after [] name t h e = no_some _ t e
left_after (One child ∷ slots) name t h e =
    left_if (has child name) (taken child slots) t None e (both (takes_none child) (take_none slots) h).1 (λ k. no_some _ t k)
left_after (Opt child ∷ slots) name t h e =
    let p = both (takes_none child) (take_none slots) h in
    left_if (has child name) (taken child slots) t (take_child slots name) e p.1 (λ k. left_after slots name t p.1 k)
left_after (Many child ∷ slots) name t h e =
    let p = both (takes_none child) (take_none slots) h in
    left_if (has child name) (taken child (Many child ∷ slots)) t (take_child slots name) e h (λ k. left_after slots name t p.1 k)
left_after (Lead child ∷ []) name t h e = left_if (has child name) (taken child []) t None e refl (λ k. no_some _ t k)
left_after (Lead child ∷ slot ∷ slots) name t h e =
    let p = both (takes_none child) (takes_none (child_of slot) && take_none slots) h in
    left_if (has child name) (taken child (slot ∷ slots)) t (take_child slots name) e p.1
    (λ k. left_after slots name t (both (takes_none (child_of slot)) (take_none slots) p.1).1 k)

-- ---- by what is asked of an event

abbrev Stands : Between → Name → Type 0
Stands between name = (stands_between between name ≡ true) × (is_listed space_or_ending name ≡ true)

alone_so : (a : Bool) → (a || false) ≡ true → a ≡ true
alone_so true h = refl
alone_so false h = h

space_so : (name : Name) (A : Type 0) → is_listed space_names name ≡ true → (n.SpaceOrTab ≡ name → A) → A
space_so name A h k = k (same_true the_type tt n.SpaceOrTab name (alone_so (same_name n.SpaceOrTab name) h))

space_stands : (name : Name) → is_listed space_names name ≡ true → Stands Spaces name × Stands Lines name
space_stands name h =
    space_so name (Stands Spaces name × Stands Lines name) h
    (λ k. subst (λ z. Stands Spaces z × Stands Lines z) k ((refl, refl), (refl, refl)))

ending_stands : (name : Name) → is_listed ending_names name ≡ true → Stands Lines name
ending_stands name h = of_two (λ z. Stands Lines z) n.LineEnding n.BlankLineEnding name (refl, refl) (refl, refl) h

stands_by : (between : Between) (name : Name) (v e o s : Bool) → (s ≡ true → Stands Spaces name × Stands Lines name) → (e ≡ true → Stands Lines name)
    → is_between between (void_by v e o s) ≡ true → Stands between name
stands_by Nothing name v e o s h k b = absurd (let f : false ≡ true = b in cc)
stands_by Spaces name true false false true h k b = (h refl).0
stands_by Spaces name true true o s h k b = absurd (let f : false ≡ true = b in cc)
stands_by Spaces name true false true s h k b = absurd (let f : false ≡ true = b in cc)
stands_by Spaces name true false false false h k b = absurd (let f : false ≡ true = b in cc)
stands_by Spaces name false e o s h k b = absurd (let f : false ≡ true = b in cc)
stands_by Lines name true false false true h k b = (h refl).1
stands_by Lines name true true o s h k b = k refl
stands_by Lines name true false true s h k b = absurd (let f : false ≡ true = b in cc)
stands_by Lines name true false false false h k b = absurd (let f : false ≡ true = b in cc)
stands_by Lines name false e o s h k b = absurd (let f : false ≡ true = b in cc)

pub stands_as : (between : Between) (name : Name) (void : Void) → void ≡ void_of name → is_between between void ≡ true → Stands between name
stands_as between name void h b =
    stands_by between name (is_void name) (is_listed ending_names name) (asks_others name) (is_listed space_names name) (space_stands name) (ending_stands name)
    (sym (ap (is_between between) h) ∙ b)

-- ---- all that is open

none_some : (A : Type 0) (c : Check) → None ≡ Some c → A
none_some A c h = absurd (let f : None ≡ Some c = h in cc)

check_is : (b c : Check) → Some b ≡ Some c → b ≡ c
check_is b c h = cc

between_by : (t : Bool) (c next : Check) (at : Spot) (name : Name) → TakesNone c
    → (if t then Some (check_at (opened c.inner name Plain at) (c.inner ∷ c.outer) at) else None) ≡ Some next → TakesNone next
between_by true c next at name k e =
    subst TakesNone (check_is (check_at (opened c.inner name Plain at) (c.inner ∷ c.outer) at) next e)
    (record { inner = rows_take_none name Plain; outer = (k.inner, k.outer) })
between_by false c next at name k e = none_some _ next e

enters : (c next : Check) (at : Spot) (name : Name) (t : Option Taken) → take_child c.inner.rest name ≡ t → TakesNone c
    → entered_as c at name t ≡ Some next → TakesNone next
enters c next at name (Some t) h k e =
    subst TakesNone (check_is (check_at (opened c.inner name t.form at) (with_child c.inner name t.rest ∷ c.outer) at) next e)
    (record { inner = rows_take_none name t.form; outer = (left_after c.inner.rest name t k.inner h, k.outer) })
enters c next at name None h k e = between_by (stands_between c.inner.around name) c next at name k e

enter_by : (t : Bool) (c next : Check) (at : Spot) (name : Name) → TakesNone c
    → (if t then None else entered_as c at name (take_child c.inner.rest name)) ≡ Some next → TakesNone next
enter_by true c next at name k e = none_some _ next e
enter_by false c next at name k e = enters c next at name (take_child c.inner.rest name) refl k e

exits : (c next : Check) (at : Spot) (name : Name) (outer : List Open) → AllTakeNone outer → exited_to c at name outer ≡ Some next → TakesNone next
exits c next at name [] k e = none_some _ next e
exits c next at name (o ∷ outer) k e =
    subst TakesNone (check_is (check_at (with_above o name c.inner.cells) outer at) next e) (record { inner = k.0; outer = k.1 })

exit_by : (t : Bool) (c next : Check) (at : Spot) (name : Name) → TakesNone c → (if t then exited_to c at name c.outer else None) ≡ Some next → TakesNone next
exit_by false c next at name k e = none_some _ next e
exit_by true c next at name k e = exits c next at name c.outer k.outer e

pub takes_none_more : (c next : Check) (kind : Kind) (name : Name) (at : Spot) → TakesNone c → moved c kind name at ≡ Some next → TakesNone next
takes_none_more c next Enter name at k e = enter_by (is_barred c.inner name) c next at name k e
takes_none_more c next Exit name at k e = exit_by (may_exit c.inner name) c next at name k e

-- the innermost with a row
pub held_takes_none : (l : Option Leaf) (o : Open) (os : List Open) (from : Spot) → TakesNone (check_at (innermost l o) (around_it l o os) from)
    → take_none o.rest ≡ true
held_takes_none None o os from k = k.inner
held_takes_none (Some x) o os from k = k.outer.0
