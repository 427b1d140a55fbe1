-- Definitions, event by event.
use Rattle.std.proofs.Common.{◌≡◌, ◌<◌, ℕ, ◌+◌, Bool, true, false, ◌&&◌, if◌then◌else◌, List, [], ◌∷◌, ◌++◌, refl, sym, ap, ◌∙◌, get_or, append_assoc, drop, length}
use Rattle.compile_written.proofs.Prelude.{Definition, definition_after, definitions_in, drop_next, Event, HasDefinitions, is_enter, Names, no_event}
use Rattle.compile_written.proofs.Prelude.{same_name}
use Rattle.engine_events.specs.declared.event.Name.TheVariants as n
use Rattle.compile_written.specs.Definition.{has_definition, starts_definition}
use Rattle.compile_written.specs.declared.definition.Definitions.{Definitions}

-- those before a place were read
abbrev pub HasFront : {A : Type 0} → Names → List ℕ → List Event → ℕ → Definitions A → Type 0
HasFront names bytes events i found =
    (front : List Definition) × HasDefinitions found front × (front ++ definitions_in names bytes (drop i events) ≡ definitions_in names bytes events)

module _ (names : Names) (bytes : List ℕ) (events : List Event) where
  next_is : (i : ℕ) (b : Bool) → i < length events → starts_definition (get_or events i no_event) ≡ b
      → definitions_in names bytes (drop i events)
      ≡ (if b then definition_after names bytes (drop (i + 1) events) ∷ definitions_in names bytes (drop (i + 1) events)
      else definitions_in names bytes (drop (i + 1) events))
  next_is i b l h =
      let es = drop (i + 1) events in
      ap (definitions_in names bytes) (drop_next events i l)
      ∙ ap (λ (t : Bool). if t then definition_after names bytes es ∷ definitions_in names bytes es else definitions_in names bytes es) h

  pub front_same : {A : Type 0} (i : ℕ) (found : Definitions A) → i < length events → starts_definition (get_or events i no_event) ≡ false
      → HasFront names bytes events i found → HasFront names bytes events (i + 1) found
  front_same i found l h k = (k.0, k.1, ap (λ (z : List Definition). k.0 ++ z) (sym (next_is i false l h)) ∙ k.2)

  pub front_more : {A : Type 0} (i : ℕ) (new : Definitions A) (front : List Definition) → i < length events
      → starts_definition (get_or events i no_event) ≡ true
      → HasDefinitions new (front ++ definition_after names bytes (drop (i + 1) events) ∷ [])
      → front ++ definitions_in names bytes (drop i events) ≡ definitions_in names bytes events → HasFront names bytes events (i + 1) new
  front_more i new front l h has k =
      let d = definition_after names bytes (drop (i + 1) events) in (
        front ++ d ∷ [],
        has,
        append_assoc front (d ∷ []) (definitions_in names bytes (drop (i + 1) events))
            ∙ ap (λ (z : List Definition). front ++ z) (sym (next_is i true l h))
            ∙ k,
      )

-- ---- without a definition

never : (a b : Bool) → b ≡ false → (a && b) ≡ false
never true b h = h
never false b h = refl

no_first : (b c : Bool) → (if b then true else c) ≡ false → b ≡ false
no_first true c h = h
no_first false c h = refl

no_rest : (b c : Bool) → (if b then true else c) ≡ false → c ≡ false
no_rest true c h = absurd (let f : true ≡ false = h in cc)
no_rest false c h = h

pub none_defined : (names : Names) (bytes : List ℕ) (events : List Event) → has_definition events ≡ false → definitions_in names bytes events ≡ []
none_defined names bytes [] h = refl
none_defined names bytes (e ∷ es) h =
    let b = same_name e.name n.Definition in
    ap (λ (t : Bool). if t then definition_after names bytes es ∷ definitions_in names bytes es else definitions_in names bytes es)
    (never (is_enter e.kind) b (no_first b (has_definition es) h))
    ∙ none_defined names bytes es (no_rest b (has_definition es) h)
