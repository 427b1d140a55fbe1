-- Labels that match (CommonMark 6.3).
use Rattle.std.specs.Prelude.{◌≡◌, ◌≢◌, ℕ, List, [], ◌∷◌, ◌++◌, None, Some, length}
use Rattle.std.specs.List.{All}
use Rattle.definition_inline.specs.LabelMatch.{normal_label, first_match}

-- one label matches another exactly where their folded texts are equal (CommonMark 6.3)
abbrev pub LabelsMatch : Type 0
LabelsMatch = (a b : List ℕ) → (first_match a (b ∷ []) ≡ Some 0 → normal_label a ≡ normal_label b)
    × (normal_label a ≡ normal_label b → first_match a (b ∷ []) ≡ Some 0)

-- one label matches none of some labels exactly where each of them has another folded text (CommonMark 6.3)
abbrev pub NoLabelMatches : Type 0
NoLabelMatches =
    (a : List ℕ) (labels : List (List ℕ))
    → (first_match a labels ≡ None → All (λ b. normal_label a ≢ normal_label b) labels)
    × (All (λ b. normal_label a ≢ normal_label b) labels → first_match a labels ≡ None)

-- of several labels the first one with the same folded text is matched (CommonMark 6.3)
abbrev pub FirstLabelMatches : Type 0
FirstLabelMatches =
    (a b : List ℕ) (earlier later : List (List ℕ)) → All (λ other. normal_label a ≢ normal_label other) earlier → normal_label a ≡ normal_label b
    → first_match a (earlier ++ b ∷ later) ≡ Some (length earlier)
