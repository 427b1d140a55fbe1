-- Strings that were read ahead of the rows: those of a part of a text, and those that are left where a walk is.
use Rattle.std.specs.Prelude.{◌≡◌, ℕ, true, false, List, drop, slice_index_or}
use Rattle.std.specs.Option.{option_map}
use Rattle.engine_events.specs.Names.{is_listed}
use Rattle.engine_events.specs.declared.event.Event.{Event}
use Rattle.engine_events.specs.declared.event.Name.{Name}
use Rattle.definition_inline.specs.CharacterReference.{Names}
use Rattle.definition_inline.specs.Inline.{Target, LinkTexts}
use Rattle.event_grammar.specs.References.{media_names}
use Rattle.compile_strings.specs.RawTexts.{sequence_of, raw_after}
use Rattle.compile_strings.specs.Spelled.{Spelled, no_spelled, raws_view, spelled_by, targets_view}
use Rattle.compile_rows.specs.declared.rows.PartStrings.{PartStrings}
use Rattle.compile_rows.specs.declared.rows.Walk.{Walk}
use Rattle.compile_strings.specs.declared.spelled.SpelledStrings.{SpelledStrings}

-- the strings of the part of a text with this name, by the events after its enter
pub record AreStringsOf {A : Type 0} (names : Names) (bytes : List ℕ) (leads : Target → LinkTexts) (at : ℕ → LinkTexts) (part : PartStrings A) (name : Name)
    (events : List Event) : Type 0 where
  pub spelled : is_listed media_names name ≡ true
      → slice_index_or (targets_view at part.strings.now) part.target no_spelled ≡ spelled_by names bytes leads name events
  pub raw_text : option_map (λ text. text.now) part.raw_text ≡ option_map (λ sequence. raw_after bytes sequence false 0 events) (sequence_of name)

-- what a walk has not used yet
pub record AreLeft {A : Type 0} (at : ℕ → LinkTexts) (strings : SpelledStrings A) (walk : Walk A) (spelled : List Spelled) (raw : List (List ℕ)) : Type 0 where
  pub targets : drop walk.targets (targets_view at strings) ≡ spelled
  pub raws : drop walk.raw_texts (raws_view strings) ≡ raw
