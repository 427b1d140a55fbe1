-- The text of a label, event by event.
use Rattle.std.proofs.Common.{◌≡◌, ◌∙◌, ℕ, zero, suc, ◌+◌, ◌≤◌, Bool, true, false, nat_lt, if◌then◌else◌, List, [], ◌∷◌, ◌++◌, ◌||◌, map, refl, ap}
use Rattle.std.proofs.Common.{arith, add-one}
use Rattle.std.specs.List.{list_any}
use Rattle.engine_events.specs.declared.event.Event.{Event}
use Rattle.state_label_ends.specs.Definitions.{label_part, label_text}

yes : {A : Type 0} (b : Bool) (x y : A) → b ≡ true → (if b then x else y) ≡ x
yes true x y e = refl
yes false x y e = absurd (let f : false ≡ true = e in cc)

no : {A : Type 0} (b : Bool) (x y : A) → b ≡ false → (if b then x else y) ≡ y
no false x y e = refl
no true x y e = absurd (let f : true ≡ false = e in cc)

pub label_text_start : (bytes : List ℕ) (es : List Event) (from to : ℕ) → to ≤ from → label_text bytes es from to ≡ []
unfolding label_text
label_text_start bytes es from zero h = refl
label_text_start bytes es from (suc i) h = yes (nat_lt i from) [] _ (grind arith)

pub label_text_more : (bytes : List ℕ) (es : List Event) (from i : ℕ) → from ≤ i
    → label_text bytes es from (i + 1) ≡ label_text bytes es from i ++ label_part bytes es i
unfolding label_text
label_text_more bytes es from i h = ap (label_text bytes es from) (add-one i) ∙ no (nat_lt i from) [] _ (grind arith)

pub any_mapped : {X Y : Type 0} (p : Y → Bool) (f : X → Y) (xs : List X) → list_any p (map f xs) ≡ list_any (λ x. p (f x)) xs
any_mapped p f [] = refl
any_mapped p f (x ∷ xs) = ap (λ b. p (f x) || b) (any_mapped p f xs)
