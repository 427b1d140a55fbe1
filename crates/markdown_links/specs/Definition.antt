-- Link reference definitions among links (CommonMark 4.7).
use Rattle.std.specs.Prelude.{◌≡◌, ℕ, ◌+◌, if◌then◌else◌, List, [], ◌∷◌, map, slice_get, Option, None, Some}
use Rattle.definition_inline.specs.LabelMatch.{first_match}
use Rattle.definition_text.specs.Content.{content_codes}
use Rattle.engine_events.specs.declared.event.Event.{Event}
use Rattle.inline_labels.specs.Table.{HasLabels}
use Rattle.markdown_links.specs.Kind.{is_definition}
use Rattle.markdown_links.specs.Target.{label_at}
use Rattle.markdown_links.specs.declared.definition.Definitions.{Definitions}
use Rattle.markdown_links.specs.declared.span.Span.{Span}

-- a definition: the bytes of its label, and its place among the links
pub record Labelled : Type 0 where
  pub label : List ℕ
  pub place : ℕ

abbrev pub labelled : List ℕ → ℕ → Labelled
labelled label place = record { label = label; place = place }

abbrev pub labels_of : List Labelled → List (List ℕ)
labels_of ds = map (λ (d : Labelled). content_codes d.label) ds

abbrev pub places_of : List Labelled → List ℕ
places_of ds = map (λ (d : Labelled). d.place) ds

-- the place of the definition of this number
abbrev pub place_at : List Labelled → Option ℕ → Option ℕ
place_at ds None = None
place_at ds (Some number) = slice_get (places_of ds) number

-- the place of the first definition that a label matches
abbrev pub place_of : List Labelled → List ℕ → Option ℕ
place_of ds label = place_at ds (first_match (content_codes label) (labels_of ds))

module _ (bytes : List ℕ) (events : List Event) where
  -- the definitions among links, of which the first has this place
  abbrev pub definitions_from : ℕ → List Span → List Labelled
  definitions_from place [] = []
  definitions_from place (s ∷ ss) =
      if is_definition s.kind then labelled (label_at bytes events s.label) place ∷ definitions_from (place + 1) ss
      else definitions_from (place + 1) ss

  -- the place of the definition that a label leads to, if there is a label
  abbrev pub place_by : List Labelled → Option ℕ → Option ℕ
  place_by ds None = None
  place_by ds (Some index) = place_of ds (label_at bytes events (Some index))

  -- the place of the definition that a link leads to
  abbrev pub definition_of : List Labelled → Span → Option ℕ
  definition_of ds s = if is_definition s.kind then None else place_by ds s.label

-- the table of these definitions
pub record HasDefinitions {A : Type 0} (found : Definitions A) (ds : List Labelled) : Type 0 where
  pub labels : HasLabels found.labels (labels_of ds)
  pub places : found.places.items ≡ places_of ds
