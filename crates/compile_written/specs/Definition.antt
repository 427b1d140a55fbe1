-- Link reference definitions, by events (CommonMark 4.7).
use Rattle.std.specs.Prelude.{◌≡◌, ℕ, ◌&&◌, Bool, true, false, if◌then◌else◌, List, [], ◌∷◌, ◌++◌, Some, drop, map, string_bytes}
use Rattle.engine_events.specs.Names.{same_name}
use Rattle.engine_events.specs.declared.event.Event.{Event}
use Rattle.engine_events.specs.declared.event.Name.TheVariants as n
use Rattle.definition_text.specs.Content.{content_codes}
use Rattle.definition_inline.specs.CharacterReference.{Names}
use Rattle.definition_inline.specs.Definition.{Definition, definition}
use Rattle.definition_inline.specs.Inline.{LinkTexts, link_texts}
use Rattle.definition_inline.specs.Targets.{labels_of}
use Rattle.inline_labels.specs.Table.{HasLabels}
use Rattle.event_meaning.specs.Strings.{written}
use Rattle.event_references.specs.Texts.{is_enter}
use Rattle.event_references.specs.Views.{text_first}
use Rattle.compile_written.specs.Child.{from_child, has_name}
use Rattle.compile_written.specs.Strings.{parts_after}
use Rattle.compile_written.specs.declared.definition.Definitions.{Definitions}
use Rattle.compile_written.specs.declared.definition.WrittenTarget.{WrittenTarget}

-- ---- by the events after the enter of a definition

abbrev pub label_string : List Event → List Event
label_string events = from_child n.DefinitionLabelString 0 (drop 1 (from_child n.DefinitionLabel 0 events))

abbrev pub place_events : List Event → List Event
place_events events = drop 1 (from_child n.DefinitionDestination 0 events)

abbrev pub literal_events : List Event → List Event
literal_events events = drop 1 (from_child n.DefinitionDestinationString 0 (drop 1 (from_child n.DefinitionDestinationLiteral 0 (place_events events))))

abbrev pub raw_events : List Event → List Event
raw_events events = drop 1 (from_child n.DefinitionDestinationString 0 (drop 1 (from_child n.DefinitionDestinationRaw 0 (place_events events))))

abbrev pub title_events : List Event → List Event
title_events events = drop 1 (from_child n.DefinitionTitleString 0 (drop 1 (from_child n.DefinitionTitle 0 events)))

-- whether a definition is among events
abbrev pub has_definition : List Event → Bool
has_definition events = has_name n.Definition events

abbrev pub starts_definition : Event → Bool
starts_definition e = is_enter e.kind && same_name e.name n.Definition

module _ (names : Names) (bytes : List ℕ) where
  abbrev pub destination_written : List Event → List ℕ
  destination_written events = written (parts_after names bytes 0 (literal_events events)) ++ written (parts_after names bytes 0 (raw_events events))

  abbrev pub title_written : List Event → List ℕ
  title_written events = written (parts_after names bytes 0 (title_events events))

  abbrev pub definition_after : List Event → Definition
  definition_after events =
      definition (content_codes (text_first bytes (label_string events))) (destination_written events) (Some (title_written events)) []

  -- all definitions among events
  abbrev pub definitions_in : List Event → List Definition
  definitions_in [] = []
  definitions_in (e ∷ es) = if starts_definition e then definition_after es ∷ definitions_in es else definitions_in es

-- ---- what is held

abbrev pub leads : Definition → LinkTexts
leads d = link_texts d.destination d.title

abbrev pub target_view : {A : Type 0} → WrittenTarget A → LinkTexts
target_view target = link_texts (content_codes (string_bytes target.destination)) (Some (content_codes (string_bytes target.title)))

-- the labels of these definitions, and where each leads
pub record HasDefinitions {A : Type 0} (found : Definitions A) (ds : List Definition) : Type 0 where
  pub has_labels : HasLabels found.labels (labels_of ds)
  pub each : map target_view found.targets.items ≡ map leads ds
