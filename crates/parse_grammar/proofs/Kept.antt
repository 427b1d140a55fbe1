-- Which labels are among others.
use Rattle.std.proofs.Common.{◌≡◌, ℕ, suc, ◌+◌, Bool, true, false, cond, ◌||◌, List, [], ◌∷◌, ◌++◌, None, Some, length, map, refl, sym, ap, ap₂, ◌∙◌, arith, nat_lt, not}
use Rattle.std.proofs.lemmas.Bool.{le-ltb, lt-ltb, ltb-false, ltb-true}
use Rattle.std.specs.Prelude.{is_some}
use Rattle.std.specs.List.{list_any, position, position_or_len}
use Rattle.std.specs.Str.{bytes_eq}
use Rattle.definition_text.specs.Columns.{Code}
use Rattle.definition_inline.specs.Definition.{Definition}
use Rattle.definition_inline.specs.LabelMatch.{first_match, normal_label}
use Rattle.definition_inline.specs.Targets.{labels_of}
use Rattle.definition_page.specs.InlinePieces.{Meaning}
use Rattle.parse_alike.specs.Targets.{AreDefinitionsAlike}
use Rattle.parse_references.specs.Leads.{AreKept}

-- ---- where one passes

moved : (place size : ℕ) (b : Bool) → nat_lt place size ≡ b → nat_lt (1 + place) (suc size) ≡ b
moved place size true h = lt-ltb (1 + place) (suc size) (omega (arith, ltb-true place size h))
moved place size false h = le-ltb (1 + place) (suc size) (omega (arith, ltb-false place size h))

place_step : (here : Bool) (place size : ℕ) (later : Bool) → nat_lt place size ≡ later → nat_lt (cond (not here) (1 + place) 0) (suc size) ≡ here || later
place_step true place size later h = lt-ltb 0 (suc size) (omega arith)
place_step false place size later h = moved place size later h

any_place : {X : Type 0} (p : X → Bool) (xs : List X) → nat_lt (position_or_len p xs) (length xs) ≡ list_any p xs
any_place p [] = refl
any_place p (x ∷ xs) = place_step (p x) (position_or_len p xs) (length xs) (list_any p xs) (any_place p xs)

some_if : (b : Bool) (place : ℕ) → is_some (cond b (Some place) None) ≡ b
some_if true place = refl
some_if false place = refl

found_any : {X : Type 0} (p : X → Bool) (xs : List X) → is_some (position p xs) ≡ list_any p xs
found_any p xs = some_if (nat_lt (position_or_len p xs) (length xs)) (position_or_len p xs) ∙ any_place p xs

-- ---- labels

-- whether a label is among these that passes a test as labels are matched
abbrev pub any_label : (List ℕ → Bool) → List (List Code) → Bool
any_label test labels = list_any test (map normal_label labels)

pub any_both : (test : List ℕ → Bool) (xs ys : List (List Code)) → any_label test (xs ++ ys) ≡ (any_label test xs || any_label test ys)
any_both test [] ys = refl
any_both test (x ∷ xs) ys = more (test (normal_label x)) (any_both test xs ys)
  where
    more : (b : Bool) → any_label test (xs ++ ys) ≡ (any_label test xs || any_label test ys)
        → (b || any_label test (xs ++ ys)) ≡ ((b || any_label test xs) || any_label test ys)
    more true h = refl
    more false h = h

-- what is among the first labels is among the others
pub kept_among : (labels others : List (List Code)) → ((test : List ℕ → Bool) → any_label test labels ≡ true → any_label test others ≡ true)
    → AreKept (λ label. is_some (first_match label labels)) (λ label. is_some (first_match label others))
kept_among labels others kept label label' alike e =
    found_any (bytes_eq (normal_label label')) (map normal_label others)
    ∙ ap (λ normal. list_any (bytes_eq normal) (map normal_label others)) (sym alike)
    ∙ kept (bytes_eq (normal_label label)) (sym (found_any (bytes_eq (normal_label label)) (map normal_label labels)) ∙ e)

pub same_kept : (labels others : List (List Code)) → map normal_label labels ≡ map normal_label others
    → AreKept (λ label. is_some (first_match label labels)) (λ label. is_some (first_match label others))
same_kept labels others same = kept_among labels others (λ test e. ap (list_any test) (sym same) ∙ e)

pub same_labels : (m m' : Meaning) (ds ds' : List Definition) → AreDefinitionsAlike m m' ds ds' → map normal_label (labels_of ds) ≡ map normal_label (labels_of ds')
same_labels m m' [] [] are = refl
same_labels m m' [] (d ∷ ds) are = absurd are
same_labels m m' (d ∷ ds) [] are = absurd are
same_labels m m' (d ∷ ds) (d' ∷ ds') are = ap₂ (λ (x : List ℕ) (xs : List (List ℕ)). x ∷ xs) are.0.0 (same_labels m m' ds ds' are.1)
