-- The labels of footnote definitions, event by event.
use Rattle.std.proofs.Common.{◌≡◌, ◌<◌, ◌≤◌, ℕ, ◌+◌, ◌==◌, Bool, true, false, if◌then◌else◌, List, [], Option, refl, sym, ap, ◌∙◌, subst, get_or, drop, length}
use Rattle.std.proofs.lemmas.List.{drop_all}
use Rattle.compile_written.proofs.Prelude.{begun, Code, container_names, drop_next, enter_content, enter_note, enter_open, Event, has_begun, HasLabels}
use Rattle.compile_written.proofs.Prelude.{HasNotes, is_listed, Kind, label_at, Name, no_event, note_next, Notes, notes, notes_after, the_document}
use Rattle.compile_written.specs.declared.gfm_footnote_definition.Walk.{Walk}

abbrev pub start_notes : Notes
start_notes = notes [] the_document [] 0

-- what is known after the events before a place
abbrev pub KnowsFront : {A : Type 0} → List ℕ → List Event → ℕ → Walk A → Type 0
KnowsFront bytes events i walk = (s : Notes) × HasNotes bytes events walk s × (notes_after bytes s (drop i events) ≡ notes_after bytes start_notes events)

pub note_on : (bytes : List ℕ) (events : List Event) (i : ℕ) (kind : Kind) (s : Notes) → i < length events → (get_or events i no_event).kind ≡ kind
    → notes_after bytes s (drop i events)
    ≡ notes_after bytes (note_next kind (get_or events i no_event).name (label_at bytes events (i + 1)) s) (drop (i + 1) events)
note_on bytes events i kind s l h =
    ap (notes_after bytes s) (drop_next events i l)
    ∙ ap (λ (z : Kind). notes_after bytes (note_next z (get_or events i no_event).name (label_at bytes events (i + 1)) s) (drop (i + 1) events)) h

pub knows_more : {A : Type 0} (bytes : List ℕ) (events : List Event) (i : ℕ) (kind : Kind) (old new : Walk A) → i < length events
    → (get_or events i no_event).kind ≡ kind
    → ((s : Notes) → HasNotes bytes events old s → HasNotes bytes events new (note_next kind (get_or events i no_event).name (label_at bytes events (i + 1)) s))
    → KnowsFront bytes events i old → KnowsFront bytes events (i + 1) new
knows_more bytes events i kind old new l h on k =
    (note_next kind (get_or events i no_event).name (label_at bytes events (i + 1)) k.0, on k.0 k.1, sym (note_on bytes events i kind k.0 l h) ∙ k.2)

-- at the end
pub knows_all : {A : Type 0} (bytes : List ℕ) (events : List Event) (i : ℕ) (walk : Walk A) → length events ≤ i → KnowsFront bytes events i walk
    → HasLabels walk.labels (notes_after bytes start_notes events).ended
knows_all bytes events i walk l k =
    subst (λ (s : Notes). HasLabels walk.labels s.ended) (sym (ap (notes_after bytes k.0) (drop_all i events l)) ∙ k.2) k.1.has_labels

-- an event in the content is entered
pub content_same : (b : Bool) (name : Name) (label : List Code) (s : Notes)
    → enter_content b name label (notes s.ended (begun s.inner) s.outer s.skipped) ≡ enter_content b name label s
content_same true name label s = refl
content_same false name label s = refl

pub enters : (name : Name) (label : List Code) (s : Notes) (awaited : Option Name) → s.skipped ≡ 0 → awaited ≡ s.inner.awaited → has_begun awaited name ≡ true
    → enter_content (is_listed container_names name) name label (notes s.ended (begun s.inner) s.outer s.skipped) ≡ enter_note name label s
enters name label s awaited z a h =
    content_same (is_listed container_names name) name label s
    ∙ sym (ap (λ (n : ℕ). if n == 0 then enter_open (has_begun s.inner.awaited name) name label s else notes s.ended s.inner s.outer (s.skipped + 1)) z
    ∙ ap (λ (t : Bool). enter_open t name label s) (ap (λ (o : Option Name). has_begun o name) (sym a) ∙ h))
