-- The labels that a table holds.
use Rattle.std.specs.Prelude.{◌≡◌, ◌++◌, ◌∷◌, [], ℕ, Bool, List, OnOk, Result, is_none, length, map}
use Rattle.std.specs.BTreeMap.{get_by_text}
use Rattle.definition_inline.specs.LabelMatch.{normal_label, first_match, place_of}
use Rattle.definition_text.specs.Content.{content_codes}
use Rattle.inline_labels.specs.declared.table.LabelTable.{LabelTable}

-- a table has the place of the first of these labels for each text
pub record HasLabels {A : Type 0} (table : LabelTable A) (labels : List (List ℕ)) : Type 0 where
  pub places : (normal : List ℕ) → get_by_text table.places normal ≡ place_of normal (map normal_label labels)

-- after these labels the one of these bytes is in the table too, where so many were given before it, unless memory ran out
abbrev pub AddsLabel : {A B C : Type 0} → LabelTable A → Result B C → LabelTable A → ℕ → List ℕ → Type 0
AddsLabel old result new place label =
    (labels : List (List ℕ)) → HasLabels old labels → place ≡ length labels → OnOk result (HasLabels new (labels ++ content_codes label ∷ []))

-- no label matches the one of these bytes
abbrev pub lacks_label : List (List ℕ) → List ℕ → Bool
lacks_label labels label = is_none (first_match (content_codes label) labels)
