-- The places of labels, with one label more.
use Rattle.std.proofs.Common.{◌≡◌, ℕ, ◌+◌, Bool, true, false, cond, List, [], ◌∷◌, ◌++◌, map, length, Option, None, Some, refl, sym, ap, ap₂, ◌∙◌, inl, inr}
use Rattle.std.proofs.Common.{add-zero, arith}
use Rattle.std.specs.List.{position_from}
use Rattle.std.specs.Option.{is_some}
use Rattle.std.specs.Str.{bytes_eq}
use Rattle.std.proofs.lemmas.Bool.{cases_Bool, cond-true, cond-false, false_from_ne_true, true≢false}
use Rattle.std.proofs.lemmas.Iterator.Adapters.{position_from-zero}
use Rattle.std.proofs.lemmas.Slice.Eq.{bytes_eq-Decides}
use Rattle.definition_inline.specs.LabelMatch.{normal_label, place_of}
use Rattle.inline_labels.specs.declared.table.LabelTable.{LabelTable}
use Rattle.inline_labels.specs.Table.{HasLabels}

-- the first of two places, if there is one
or_else : Option ℕ → Option ℕ → Option ℕ
or_else None other = other
or_else (Some place) other = Some place

or_else-none : (place : Option ℕ) → or_else place None ≡ place
unfolding or_else
or_else-none None = refl
or_else-none (Some place) = refl

or_else-some : (place other : Option ℕ) → is_some place ≡ true → or_else place other ≡ place
unfolding or_else
or_else-some None other some = cc
or_else-some (Some place) other some = refl

or_else-left : (place other : Option ℕ) → is_some place ≡ false → or_else place other ≡ other
unfolding or_else
or_else-left None other none = refl
or_else-left (Some place) other none = cc

from-push : (test : List ℕ → Bool) (i : ℕ) (xs : List (List ℕ)) (y : List ℕ)
    → position_from test i (xs ++ y ∷ []) ≡ or_else (position_from test i xs) (cond (test y) (Some (i + length xs)) None)
unfolding or_else
from-push test i [] y = ap (λ n. cond (test y) (Some n) None) (sym (add-zero i))
from-push test i (x ∷ xs) y = elim (cases_Bool (test x)) [
  | inl here ↦ cond-true (test x) _ _ here ∙ sym (ap (λ place. or_else place (cond (test y) (Some (i + length (x ∷ xs))) None)) (cond-true (test x) _ _ here))
  | inr not_here ↦
      cond-false (test x) _ _ not_here
      ∙ from-push test (i + 1) xs y
      ∙ ap₂ (λ place n. or_else place (cond (test y) (Some n) None)) (sym (cond-false (test x) _ _ not_here)) (omega arith)
]

place_of-push : (q : List ℕ) (xs : List (List ℕ)) (y : List ℕ) → place_of q (xs ++ y ∷ [])
    ≡ or_else (place_of q xs) (cond (bytes_eq q y) (Some (length xs)) None)
place_of-push q xs y =
    position_from-zero (bytes_eq q) (xs ++ y ∷ [])
    ∙ from-push (bytes_eq q) 0 xs y
    ∙ ap₂ (λ place n. or_else place (cond (bytes_eq q y) (Some n) None)) (sym (position_from-zero (bytes_eq q) xs)) (omega arith)

-- a label that is there already
pub place_of-kept : (found : List ℕ → Option ℕ) (xs : List (List ℕ)) (y : List ℕ) → ((q : List ℕ) → found q ≡ place_of q xs) → is_some (found y) ≡ true
    → (q : List ℕ) → found q ≡ place_of q (xs ++ y ∷ [])
place_of-kept found xs y held some q = elim (cases_Bool (bytes_eq q y)) [
  | inl here ↦
      let is : q ≡ y = (bytes_eq-Decides q y).0 here in
      held q ∙ sym (place_of-push q xs y ∙ or_else-some (place_of q xs) _ (ap is_some (sym (held q) ∙ ap found is) ∙ some))
  | inr not_here ↦
      held q
      ∙ sym (place_of-push q xs y ∙ ap (or_else (place_of q xs)) (cond-false (bytes_eq q y) _ _ not_here) ∙ or_else-none (place_of q xs))
]

-- a label that is new
pub place_of-added : (found more : List ℕ → Option ℕ) (xs : List (List ℕ)) (y : List ℕ) (place : ℕ) → ((q : List ℕ) → found q ≡ place_of q xs)
    → is_some (found y) ≡ false → place ≡ length xs
    → ((q : List ℕ) → more q ≡ cond (bytes_eq y q) (Some place) (found q)) → (q : List ℕ) → more q ≡ place_of q (xs ++ y ∷ [])
place_of-added found more xs y place held none last step q = elim (cases_Bool (bytes_eq y q)) [
  | inl here ↦
      let is : y ≡ q = (bytes_eq-Decides y q).0 here in
      let back : bytes_eq q y ≡ true = (bytes_eq-Decides q y).1 (sym is) in
      step q
      ∙ cond-true (bytes_eq y q) _ _ here
      ∙ ap Some last
      ∙ sym (cond-true (bytes_eq q y) _ _ back)
      ∙ sym (place_of-push q xs y ∙ or_else-left (place_of q xs) _ (ap is_some (sym (held q) ∙ ap found (sym is)) ∙ none))
  | inr not_here ↦
      let back : bytes_eq q y ≡ false =
      false_from_ne_true (bytes_eq q y) (λ e. true≢false (sym ((bytes_eq-Decides y q).1 (sym ((bytes_eq-Decides q y).0 e))) ∙ not_here)) in
      step q
      ∙ cond-false (bytes_eq y q) _ _ not_here
      ∙ held q
      ∙ sym (place_of-push q xs y ∙ ap (or_else (place_of q xs)) (cond-false (bytes_eq q y) _ _ back) ∙ or_else-none (place_of q xs))
]

-- a table has labels that are matched alike, too
pub HasLabels-same : {A : Type 0} (table : LabelTable A) (labels others : List (List ℕ)) → map normal_label labels ≡ map normal_label others
    → HasLabels table labels → HasLabels table others
HasLabels-same table labels others same held = record { places = λ q. held.places q ∙ ap (place_of q) same }
