-- Labels that match.
use Rattle.std.proofs.Common.{◌≡◌, ◌≢◌, ℕ, ◌+◌, Bool, true, false, List, [], ◌∷◌, ◌++◌, map, Option, None, Some, length, refl, sym, ◌∙◌, ap, inl, inr, arith}
use Rattle.std.specs.Bool.{Decides}
use Rattle.std.specs.List.{All, position, position_from}
use Rattle.std.specs.Option.{is_some}
use Rattle.std.specs.Str.{bytes_eq}
use Rattle.std.proofs.lemmas.Bool.{both_ways, cases_Bool, cond-true, cond-false}
use Rattle.std.proofs.lemmas.List.Elements.{All-nil, All-cons, All-head, All-tail}
use Rattle.std.proofs.lemmas.Slice.Eq.{bytes_eq-Decides}
use Rattle.std.proofs.lemmas.Iterator.Adapters.{position_from-zero}
use Rattle.definition_inline.specs.LabelMatch.{normal_label, first_match}
use Rattle.laws_inline.specs.Matching.{LabelsMatch, NoLabelMatches, FirstLabelMatches}

some≢none : {X : Type 0} (x : X) → Some x ≢ None
some≢none x e = both_ways true (ap (λ o. is_some o) e) refl

-- ---- one label

one_place : {P : Type 0} (t : Bool) → Decides t P
    → (position (λ (n : ℕ). t) (0 ∷ []) ≡ Some 0 → P) × (P → position (λ (n : ℕ). t) (0 ∷ []) ≡ Some 0)
one_place true d = (λ _. d.0 refl, λ _. refl)
one_place false d = (λ e. absurd (some≢none 0 (sym e)), λ p. absurd (both_ways false refl (d.1 p)))

pub labels_match : LabelsMatch
labels_match a b = one_place (bytes_eq (normal_label a) (normal_label b)) (bytes_eq-Decides (normal_label a) (normal_label b))

-- ---- several labels

module _ (a : List ℕ) where
  -- the place of the first label that matches, where the first of them has this place
  abbrev from : ℕ → List (List ℕ) → Option ℕ
  from i labels = position_from (bytes_eq (normal_label a)) i (map normal_label labels)

  abbrev Differs : List ℕ → Type 0
  Differs b = normal_label a ≢ normal_label b

  matched : (labels : List (List ℕ)) → first_match a labels ≡ from 0 labels
  matched labels = position_from-zero (bytes_eq (normal_label a)) (map normal_label labels)

  same : (b : List ℕ) → normal_label a ≡ normal_label b → bytes_eq (normal_label a) (normal_label b) ≡ true
  same b e = (bytes_eq-Decides (normal_label a) (normal_label b)).1 e

  other : (b : List ℕ) → Differs b → bytes_eq (normal_label a) (normal_label b) ≡ false
  other b d = elim (cases_Bool (bytes_eq (normal_label a) (normal_label b))) [
    | inl is ↦ absurd (d ((bytes_eq-Decides (normal_label a) (normal_label b)).0 is))
    | inr is_not ↦ is_not
  ]

  past : (i : ℕ) (b : List ℕ) (labels : List (List ℕ)) → Differs b → from i (b ∷ labels) ≡ from (i + 1) labels
  past i b labels d = cond-false (bytes_eq (normal_label a) (normal_label b)) (Some i) (from (i + 1) labels) (other b d)

  here : (i : ℕ) (b : List ℕ) (labels : List (List ℕ)) → normal_label a ≡ normal_label b → from i (b ∷ labels) ≡ Some i
  here i b labels e = cond-true (bytes_eq (normal_label a) (normal_label b)) (Some i) (from (i + 1) labels) (same b e)

  differs : (i : ℕ) (b : List ℕ) (labels : List (List ℕ)) → from i (b ∷ labels) ≡ None → Differs b
  differs i b labels none e = some≢none i (sym (here i b labels e) ∙ none)

  none_differ : (i : ℕ) (labels : List (List ℕ)) → from i labels ≡ None → All Differs labels
  none_differ i [] e = All-nil Differs
  none_differ i (b ∷ labels) e =
      let d = differs i b labels e in All-cons Differs b labels d (none_differ (i + 1) labels (sym (past i b labels d) ∙ e))

  differ_none : (i : ℕ) (labels : List (List ℕ)) → All Differs labels → from i labels ≡ None
  differ_none i [] h = refl
  differ_none i (b ∷ labels) h =
      past i b labels (All-head Differs b labels h) ∙ differ_none (i + 1) labels (All-tail Differs b labels h)

  first_found : (i : ℕ) (b : List ℕ) (earlier later : List (List ℕ)) → All Differs earlier → normal_label a ≡ normal_label b
      → from i (earlier ++ b ∷ later) ≡ Some (i + length earlier)
  first_found i b [] later h e = here i b later e ∙ ap Some (omega arith)
  first_found i b (c ∷ earlier) later h e =
      past i c (earlier ++ b ∷ later) (All-head Differs c earlier h)
      ∙ first_found (i + 1) b earlier later (All-tail Differs c earlier h) e ∙ ap Some (omega arith)

pub no_label_matches : NoLabelMatches
no_label_matches a labels = (λ e. none_differ a 0 labels (sym (matched a labels) ∙ e), λ h. matched a labels ∙ differ_none a 0 labels h)

pub first_label_matches : FirstLabelMatches
first_label_matches a b earlier later h e = matched a (earlier ++ b ∷ later) ∙ first_found a 0 b earlier later h e ∙ ap Some (omega arith)
