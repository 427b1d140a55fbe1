-- Strings, by the events in them.
use Rattle.std.specs.Prelude.{ℕ, ◌+◌, ◌-◌, ◌==◌, ◌||◌, Bool, true, false, if◌then◌else◌, List, [], ◌∷◌, ◌++◌, drop, unwrap_or}
use Rattle.std.specs.Str.{is_utf8}
use Rattle.engine_events.specs.Names.{same_name}
use Rattle.engine_events.specs.declared.event.Event.{Event}
use Rattle.engine_events.specs.declared.event.Kind.{Kind}
use Rattle.engine_events.specs.declared.event.Kind.TheVariants.{Enter, Exit}
use Rattle.engine_events.specs.declared.event.Name.{Name}
use Rattle.engine_events.specs.declared.event.Name.TheVariants as n
use Rattle.definition_inline.specs.CharacterReference.{Names, number_of, numbered_text}
use Rattle.event_meaning.specs.Strings.{written}
use Rattle.compile_written.specs.Child.{from_child, text_first}
use Rattle.compile_written.specs.declared.string.Form.{Form}
use Rattle.compile_written.specs.declared.string.Form.TheVariants.{Plain, Written}

-- a text in a form
abbrev pub formed : Form → List ℕ → List ℕ
formed Plain text = text
formed Written text = written text

-- bytes, if they are UTF-8
abbrev pub valid : List ℕ → List ℕ
valid piece = if is_utf8 piece then piece else []

abbrev pub is_some_event : List Event → Bool
is_some_event [] = false
is_some_event (e ∷ es) = true

-- the text of a name, if it has one
abbrev pub named_text : Names → List ℕ → List ℕ
named_text names name = if is_utf8 name then unwrap_or (names name) [] else []

abbrev pub value_text : Names → Bool → Bool → List ℕ → List ℕ
value_text names hexadecimal numeric value =
    if hexadecimal then numbered_text (number_of 16 value) else (if numeric then numbered_text (number_of 10 value) else named_text names value)

module _ (names : Names) (bytes : List ℕ) where
  -- the text of a character reference, by the events after its enter
  abbrev pub reference_text : List Event → List ℕ
  reference_text events =
      value_text names (is_some_event (from_child n.CharacterReferenceMarkerHexadecimal 0 events))
      (is_some_event (from_child n.CharacterReferenceMarkerNumeric 0 events))
      (text_first bytes (from_child n.CharacterReferenceValue 0 events))

  -- what a part of a string spells, by its name and the events from its enter on
  abbrev pub part_text : Name → List Event → List ℕ
  part_text name events =
      if same_name name n.Data || same_name name n.LineEnding then valid (text_first bytes events)
      else (if same_name name n.CharacterEscape then valid (text_first bytes (from_child n.CharacterEscapeValue 0 (drop 1 events)))
      else (if same_name name n.CharacterReference then reference_text (drop 1 events)
      else []))

  abbrev pub parts_next : Kind → ℕ → List ℕ → (ℕ → List ℕ) → List ℕ
  parts_next Enter depth here others = (if depth == 0 then here else []) ++ others (depth + 1)
  parts_next Exit depth here others = if depth == 0 then [] else others (depth - 1)

  -- what a string spells, by the events in it
  abbrev pub parts_after : ℕ → List Event → List ℕ
  parts_after depth [] = []
  parts_after depth (e ∷ es) = parts_next e.kind depth (part_text e.name (e ∷ es)) (λ d. parts_after d es)
