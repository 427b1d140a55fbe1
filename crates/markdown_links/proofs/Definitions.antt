-- Definitions, one after another.
use Rattle.std.proofs.Common.{◌≡◌, ◌<◌, ◌+◌, ℕ, Bool, true, false, if◌then◌else◌, List, [], ◌∷◌, ◌++◌, drop, length, get_or, sym, ap, ◌∙◌, append_assoc}
use Rattle.std.proofs.lemmas.List.{drop_more}
use Rattle.engine_events.specs.declared.event.Event.{Event}
use Rattle.markdown_links.specs.Definition.{HasDefinitions, Labelled, definitions_from, labelled}
use Rattle.markdown_links.specs.Kind.{is_definition}
use Rattle.markdown_links.specs.Target.{label_at}
use Rattle.markdown_links.specs.declared.definition.Definitions.{Definitions}
use Rattle.markdown_links.specs.declared.span.Span.{Span}

-- a table has the definitions before a place, which with those after it are all
abbrev pub HasFront : {A : Type 0} → List ℕ → List Event → List Span → ℕ → Definitions A → Type 0
HasFront bytes events spans i found =
    (front : List Labelled) × HasDefinitions found front
    × (front ++ definitions_from bytes events i (drop i spans) ≡ definitions_from bytes events 0 spans)

module _ (bytes : List ℕ) (events : List Event) (spans : List Span) (i : ℕ) (d : Span) where
  abbrev after : List Labelled
  after = definitions_from bytes events (i + 1) (drop (i + 1) spans)

  definitions_next : (b : Bool) → i < length spans → is_definition (get_or spans i d).kind ≡ b
      → definitions_from bytes events i (drop i spans)
      ≡ (if b then labelled (label_at bytes events (get_or spans i d).label) i ∷ after else after)
  definitions_next b before h =
      ap (definitions_from bytes events i) (drop_more spans i d before)
      ∙ ap (λ (t : Bool). if t then labelled (label_at bytes events (get_or spans i d).label) i ∷ after else after) h

  pub front_same : {A : Type 0} (found : Definitions A) → i < length spans → is_definition (get_or spans i d).kind ≡ false
      → HasFront bytes events spans i found → HasFront bytes events spans (i + 1) found
  front_same found before h k = (k.0, k.1, ap (λ (ds : List Labelled). k.0 ++ ds) (sym (definitions_next false before h)) ∙ k.2)

  pub front_more : {A : Type 0} (new : Definitions A) (front : List Labelled) (label : List ℕ) → i < length spans
      → is_definition (get_or spans i d).kind ≡ true → label ≡ label_at bytes events (get_or spans i d).label
      → HasDefinitions new (front ++ labelled label i ∷ [])
      → front ++ definitions_from bytes events i (drop i spans) ≡ definitions_from bytes events 0 spans → HasFront bytes events spans (i + 1) new
  front_more new front label before h is has k = (
    front ++ labelled label i ∷ [],
    has,
    append_assoc front (labelled label i ∷ []) after
        ∙ ap (λ (it : List ℕ). front ++ labelled it i ∷ after) is
        ∙ ap (λ (ds : List Labelled). front ++ ds) (sym (definitions_next true before h))
        ∙ k,
  )
