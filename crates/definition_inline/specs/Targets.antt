-- Where the labels of a document lead (CommonMark 4.7 and 6.3).
use Rattle.std.specs.Prelude.{ℕ, Bool, List, [], Option, None, is_some, map, slice_index_or, unwrap_or}
use Rattle.std.specs.Option.{option_map}
use Rattle.definition_text.specs.Columns.{Code}
use Rattle.definition_inline.specs.Definition.{Definition, definition}
use Rattle.definition_inline.specs.Inline.{Target, Resource, Reference, LinkTexts, link_texts}
use Rattle.definition_inline.specs.LabelMatch.{first_match}

-- the labels of definitions
abbrev pub labels_of : List Definition → List (List Code)
labels_of ds = map (λ (d : Definition). d.label) ds

abbrev pub no_definition : Definition
no_definition = definition [] [] None []

-- where the definition at a place leads
abbrev pub linked_at : List Definition → ℕ → LinkTexts
linked_at ds place = let d = slice_index_or ds place no_definition in link_texts d.destination d.title

-- where the first definition leads whose label matches this one (CommonMark 6.3)
abbrev pub linked_by : List Definition → List Code → Option LinkTexts
linked_by ds label = option_map (linked_at ds) (first_match label (labels_of ds))

-- whether a label is that of a definition
abbrev pub is_label_of : List Definition → List Code → Bool
is_label_of ds label = is_some (first_match label (labels_of ds))

-- where a link or an image leads, by what the definition of a label leads to
abbrev pub leads_to : (List Code → Option LinkTexts) → Target → LinkTexts
leads_to definition (Resource destination title) = link_texts destination title
leads_to definition (Reference label) = unwrap_or (definition label) (link_texts [] None)

-- what the labels of a document lead to: its link reference definitions, in the order of the text, and the labels of its footnote definitions, in the order in
-- which these end; repeats kept
pub record Targets : Type 0 where
  pub definitions : List Definition
  pub footnotes : List (List Code)

abbrev pub targets : List Definition → List (List Code) → Targets
targets definitions footnotes = record { definitions = definitions; footnotes = footnotes }

abbrev pub no_targets : Targets
no_targets = targets [] []

-- whether a label is that of a footnote definition, where these are their labels
abbrev pub is_footnote_of : List (List Code) → List Code → Bool
is_footnote_of labels label = is_some (first_match label labels)
