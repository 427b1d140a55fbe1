-- The labels of footnote definitions, by events.
use Rattle.std.specs.Prelude.{◌≡◌, ℕ, ◌+◌, ◌-◌, ◌==◌, Bool, true, false, if◌then◌else◌, List, [], ◌∷◌, ◌++◌, Option, None, Some, drop, length, map, reverse}
use Rattle.std.specs.Option.{option_map}
use Rattle.engine_events.specs.Names.{same_name, is_listed}
use Rattle.engine_events.specs.declared.event.Event.{Event}
use Rattle.engine_events.specs.declared.event.Kind.{Kind}
use Rattle.engine_events.specs.declared.event.Kind.TheVariants.{Enter, Exit}
use Rattle.engine_events.specs.declared.event.Name.{Name}
use Rattle.engine_events.specs.declared.event.Name.TheVariants as n
use Rattle.definition_text.specs.Columns.{Code}
use Rattle.definition_text.specs.Content.{content_codes}
use Rattle.event_references.specs.Views.{text_first}
use Rattle.compile_written.specs.Child.{has_name, from_child}
use Rattle.inline_labels.specs.Table.{HasLabels}
use Rattle.compile_written.specs.declared.gfm_footnote_definition.Holder.{Holder}
use Rattle.compile_written.specs.declared.gfm_footnote_definition.Walk.{Walk}

-- containers and lists: what may have a footnote definition in its content
abbrev pub container_names : List Name
container_names = n.BlockQuote ∷ n.ListItem ∷ n.GfmFootnoteDefinition ∷ n.ListOrdered ∷ n.ListUnordered ∷ []

-- where the content of one begins
abbrev pub start_name : Name → Name
start_name name =
    if same_name name n.BlockQuote then n.BlockQuotePrefix
    else (if same_name name n.ListItem then n.ListItemPrefix
    else (if same_name name n.GfmFootnoteDefinition then n.GfmFootnoteDefinitionPrefix else n.ListItem))

-- the label of a footnote definition, by the events after its enter
abbrev pub label_string : List Event → List Event
label_string events =
    from_child n.GfmFootnoteDefinitionLabelString 0
    (drop 1 (from_child n.GfmFootnoteDefinitionLabel 0 (drop 1 (from_child n.GfmFootnoteDefinitionPrefix 0 events))))

abbrev pub label_codes : List ℕ → List Event → List Code
label_codes bytes events = content_codes (text_first bytes (label_string events))

-- a container that is open, or the document: its label, if it is a footnote definition, and what its content begins with, until that is passed
pub record Held : Type 0 where
  pub label : Option (List Code)
  pub awaited : Option Name

abbrev pub held : Option (List Code) → Option Name → Held
held label awaited = record { label = label; awaited = awaited }

abbrev pub the_document : Held
the_document = held None None

abbrev pub only_if : {A : Type 0} → Bool → A → Option A
only_if true a = Some a
only_if false a = None

abbrev pub new_held : Name → List Code → Held
new_held name label = held (only_if (same_name name n.GfmFootnoteDefinition) label) (Some (start_name name))

-- whether a child of this name is in the content
abbrev pub has_begun : Option Name → Name → Bool
has_begun None name = true
has_begun (Some start) name = same_name name start

abbrev pub begun : Held → Held
begun h = held h.label None

-- the labels of those that ended, the innermost container that is open and those around it, and how many events are open that aren't in the content of one
pub record Notes : Type 0 where
  pub ended : List (List Code)
  pub inner : Held
  pub outer : List Held
  pub skipped : ℕ

abbrev pub notes : List (List Code) → Held → List Held → ℕ → Notes
notes ended inner outer skipped = record { ended = ended; inner = inner; outer = outer; skipped = skipped }

abbrev pub enter_content : Bool → Name → List Code → Notes → Notes
enter_content true name label s = notes s.ended (new_held name label) (begun s.inner ∷ s.outer) 0
enter_content false name label s = notes s.ended (begun s.inner) s.outer 1

abbrev pub enter_open : Bool → Name → List Code → Notes → Notes
enter_open true name label s = enter_content (is_listed container_names name) name label s
enter_open false name label s = notes s.ended s.inner s.outer 1

abbrev pub enter_note : Name → List Code → Notes → Notes
enter_note name label s =
    if s.skipped == 0 then enter_open (has_begun s.inner.awaited name) name label s else notes s.ended s.inner s.outer (s.skipped + 1)

abbrev pub first_held : List Held → Held
first_held [] = the_document
first_held (h ∷ hs) = h

abbrev pub label_list : Option (List Code) → List (List Code)
label_list None = []
label_list (Some label) = label ∷ []

abbrev pub exit_note : Notes → Notes
exit_note s =
    if s.skipped == 0 then notes (s.ended ++ label_list s.inner.label) (first_held s.outer) (drop 1 s.outer) 0
    else notes s.ended s.inner s.outer (s.skipped - 1)

abbrev pub note_next : Kind → Name → List Code → Notes → Notes
note_next Enter name label s = enter_note name label s
note_next Exit name label s = exit_note s

abbrev pub notes_after : List ℕ → Notes → List Event → Notes
notes_after bytes s [] = s
notes_after bytes s (e ∷ es) = notes_after bytes (note_next e.kind e.name (label_codes bytes es) s) es

-- whether a footnote definition is among events
abbrev pub has_definition : List Event → Bool
has_definition events = has_name n.GfmFootnoteDefinition events

-- ---- what the code holds

abbrev pub label_at : List ℕ → List Event → ℕ → List Code
label_at bytes events index = label_codes bytes (drop index events)

abbrev pub holder_view : List ℕ → List Event → Holder → Held
holder_view bytes events h = held (option_map (label_at bytes events) h.footnote) h.awaited

abbrev pub holder_views : List ℕ → List Event → List Holder → List Held
holder_views bytes events outer = map (holder_view bytes events) (reverse outer)

-- what a walk over events knows
pub record HasNotes {A : Type 0} (bytes : List ℕ) (events : List Event) (walk : Walk A) (s : Notes) : Type 0 where
  pub has_labels : HasLabels walk.labels s.ended
  pub counted : walk.count ≡ length s.ended
  pub inner : holder_view bytes events walk.inner ≡ s.inner
  pub outer : holder_views bytes events walk.outer.items ≡ s.outer
  pub skipped : walk.skipped ≡ s.skipped
