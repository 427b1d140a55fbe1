-- The footnote definitions whose rows were read so far.
use Rattle.std.specs.Prelude.{◌≡◌, ℕ, Bool, true, false, not, List, [], ◌∷◌, ◌++◌, Option, None, Some, map, reverse}
use Rattle.std.specs.List.{fold, list_all, list_any}
use Rattle.std.specs.Option.{option_map}
use Rattle.definition_text.specs.Content.{is_space, content_codes}
use Rattle.block_rows.specs.declared.row.Row.{Row}
use Rattle.block_rows.specs.declared.row.Row.TheVariants as row
use Rattle.block_rows.specs.Rows.{BlockRow, Single, EnterQuote, EnterItem, EnterFootnote, Exit}
use Rattle.inline_labels.specs.Table.{HasLabels}
use Rattle.block_targets.specs.declared.gfm_footnote_definition.Footnotes.{Footnotes}

-- whether a row starts a footnote definition
abbrev pub starts_footnote : Row → Bool
starts_footnote row.EnterFootnote = true
starts_footnote r = false

-- the labels of those that ended, and for each container that is open its label, if it has one, the innermost first
pub record LabelsSoFar : Type 0 where
  pub ended : List (List ℕ)
  pub containers : List (Option (List ℕ))

abbrev pub labels_so_far : List (List ℕ) → List (Option (List ℕ)) → LabelsSoFar
labels_so_far ended containers = record { ended = ended; containers = containers }

abbrev pub nothing_noted : LabelsSoFar
nothing_noted = labels_so_far [] []

-- the innermost container ends
abbrev pub note_exit : List (List ℕ) → List (Option (List ℕ)) → LabelsSoFar
note_exit ended [] = labels_so_far ended []
note_exit ended (None ∷ containers) = labels_so_far ended containers
note_exit ended (Some label ∷ containers) = labels_so_far (ended ++ label ∷ []) containers

abbrev pub note_row : LabelsSoFar → BlockRow → LabelsSoFar
note_row n (Single b) = n
note_row n EnterQuote = labels_so_far n.ended (None ∷ n.containers)
note_row n (EnterItem marker number) = labels_so_far n.ended (None ∷ n.containers)
note_row n (EnterFootnote label) = labels_so_far n.ended (Some label ∷ n.containers)
note_row n Exit = note_exit n.ended n.containers

abbrev pub note_rows : List BlockRow → LabelsSoFar
note_rows rows = fold note_row nothing_noted rows

-- whether a row that starts a footnote definition has a label without white space
abbrev pub is_bare_row : BlockRow → Bool
is_bare_row (Single b) = true
is_bare_row EnterQuote = true
is_bare_row (EnterItem marker number) = true
is_bare_row (EnterFootnote label) = not (list_any is_space label)
is_bare_row Exit = true

abbrev pub are_bare_rows : List BlockRow → Bool
are_bare_rows rows = list_all is_bare_row rows

-- the definitions with these labels ended
pub record HasEnded {A : Type 0} (found : Footnotes A) (ended : List (List ℕ)) : Type 0 where
  pub has_labels : HasLabels found.labels ended
  pub names : map (λ name. content_codes name.now) found.names.items ≡ ended

-- these were read
pub record HasLabelsSoFar {A : Type 0} (found : Footnotes A) (n : LabelsSoFar) : Type 0 where
  pub ended : HasEnded found n.ended
  pub containers : map (λ name. option_map (λ text. content_codes text.now) name) (reverse found.containers.items) ≡ n.containers
