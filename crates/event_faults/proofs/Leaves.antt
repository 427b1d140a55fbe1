-- Events without a row, which are held beside the innermost with one.
use Rattle.std.proofs.Common.{◌≡◌, ◌∙◌, ℕ, ◌≤◌, Bool, true, false, if◌then◌else◌, List, ◌∷◌, Option, None, Some, refl, sym, ap}
use Rattle.event_faults.proofs.Prelude.{around_it, Check, check_at, entered, entered_as, innermost, is_barred, Leaf, Name, Open, Spot, stands_between}
use Rattle.event_faults.proofs.Prelude.{take_child, Taken, with_child}
use Rattle.event_grammar.specs.declared.slot.Form.TheVariants.{Plain}
use Rattle.event_faults.specs.CheckViews.{leaf_view, opened_after}
use Rattle.event_faults.proofs.Counts.{Counts}

if_no : (t : Bool) (x y : Option Check) → t ≡ false → (if t then x else y) ≡ y
if_no true x y h = absurd (let f : true ≡ false = h in cc)
if_no false x y h = refl

if_so : (t : Bool) (x y : Option Check) → t ≡ true → (if t then x else y) ≡ x
if_so true x y h = refl
if_so false x y h = absurd (let f : false ≡ true = h in cc)

same : (t : Bool) (x : Option Check) → (if t then x else x) ≡ x
same true x = refl
same false x = refl

not_some : (A : Type 0) (x : Leaf) → None ≡ Some x → A
not_some A x h = absurd (let f : None ≡ Some x = h in cc)

not_none : (A : Type 0) (x : Leaf) → Some x ≡ None → A
not_none A x h = absurd (let f : Some x ≡ None = h in cc)

-- nothing is entered in an event without a row
pub stays : (l : Option Leaf) (x : Leaf) (o : Open) (os : List Open) (from at : Spot) (name : Name) → l ≡ Some x
    → entered (check_at (innermost l o) (around_it l o os) from) at name ≡ None
stays None x o os from at name h = not_some _ x h
stays (Some y) x o os from at name h = same (is_barred (leaf_view y o) name) None

-- nothing is entered that is barred
pub barred : (l : Option Leaf) (o : Open) (os : List Open) (from at : Spot) (name : Name) → l ≡ None → is_barred o name ≡ true
    → entered (check_at (innermost l o) (around_it l o os) from) at name ≡ None
barred None o os from at name h b = if_so (is_barred o name) None (entered_as (check_at o os from) at name (take_child o.rest name)) b
barred (Some x) o os from at name h b = not_none _ x h

-- a child is taken by the row
pub takes : (l : Option Leaf) (o after : Open) (os : List Open) (from at : Spot) (name : Name) (t : Taken) (sibling : Option Name) (new : Check) → l ≡ None
    → is_barred o name ≡ false → take_child o.rest name ≡ Some t → after ≡ with_child o name t.rest → sibling ≡ o.last
    → new ≡ check_at (opened_after sibling after name t.form at) (after ∷ around_it l after os) at
    → entered (check_at (innermost l o) (around_it l o os) from) at name ≡ Some new
takes None o after os from at name t sibling new h b k a s n =
    if_no (is_barred o name) None (entered_as (check_at o os from) at name (take_child o.rest name)) b
    ∙ (ap (λ (z : Option Taken). entered_as (check_at o os from) at name z) k
    ∙ ap (λ (z : Check). Some z) (sym (n ∙ ap (λ (z : Open). check_at (opened_after sibling z name t.form at) (z ∷ os) at) a
    ∙ ap (λ (z : Option Name). check_at (opened_after z (with_child o name t.rest) name t.form at) (with_child o name t.rest ∷ os) at) s)))
takes (Some x) o after os from at name t sibling new h b k a s n = not_none _ x h

-- a child stands between those of the row
pub stands : (l : Option Leaf) (o : Open) (os : List Open) (from at : Spot) (name : Name) (sibling : Option Name) (new : Check) → l ≡ None
    → is_barred o name ≡ false → take_child o.rest name ≡ None → stands_between o.around name ≡ true → sibling ≡ o.last
    → new ≡ check_at (opened_after sibling o name Plain at) (o ∷ around_it l o os) at
    → entered (check_at (innermost l o) (around_it l o os) from) at name ≡ Some new
stands None o os from at name sibling new h b k t s n =
    if_no (is_barred o name) None (entered_as (check_at o os from) at name (take_child o.rest name)) b
    ∙ (ap (λ (z : Option Taken). entered_as (check_at o os from) at name z) k
    ∙ (if_so (stands_between o.around name) (Some (check_at (opened_after o.last o name Plain at) (o ∷ os) at)) None t
    ∙ ap (λ (z : Check). Some z) (sym (n ∙ ap (λ (z : Option Name). check_at (opened_after z o name Plain at) (o ∷ os) at) s))))
stands (Some x) o os from at name sibling new h b k t s n = not_none _ x h

-- the innermost with a row has no more cells than there are events
pub held_cells : (n : ℕ) (l : Option Leaf) (o : Open) (os : List Open) (from : Spot) → Counts n (check_at (innermost l o) (around_it l o os) from) → o.cells ≤ n
held_cells n None o os from k = k.inner
held_cells n (Some x) o os from k = k.outer.0
