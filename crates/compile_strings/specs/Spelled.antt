-- Links, images, calls and raw texts that are read ahead of the rows, the first first.
use Rattle.std.specs.Prelude.{◌≡◌, ℕ, ◌-◌, false, ◌&&◌, nat_le, if◌then◌else◌, List, [], ◌∷◌, drop, take, length, map, reverse, string_bytes}
use Rattle.std.specs.Prelude.{Option, None, Some}
use Rattle.engine_events.specs.Names.{same_name, is_listed}
use Rattle.engine_events.specs.declared.event.Event.{Event}
use Rattle.engine_events.specs.declared.event.Kind.{Kind}
use Rattle.engine_events.specs.declared.event.Kind.TheVariants.{Enter, Exit}
use Rattle.engine_events.specs.declared.event.Name.{Name}
use Rattle.engine_events.specs.declared.event.Name.TheVariants as n
use Rattle.definition_text.specs.Content.{content_codes}
use Rattle.definition_inline.specs.CharacterReference.{Names}
use Rattle.definition_inline.specs.Inline.{Target, LinkTexts, link_texts}
use Rattle.event_grammar.specs.References.{media_names}
use Rattle.compile_written.specs.Strings.{valid}
use Rattle.compile_strings.specs.RawTexts.{sequence_of, whole_by, raw_after}
use Rattle.compile_strings.specs.Targets.{label_by, target_by}
use Rattle.compile_strings.specs.declared.spelled.Range.{Range}
use Rattle.compile_strings.specs.declared.spelled.SpelledTarget.{SpelledTarget}
use Rattle.compile_strings.specs.declared.spelled.SpelledTarget.TheVariants as targets
use Rattle.compile_strings.specs.declared.spelled.SpelledStrings.{SpelledStrings}

-- where a link or an image leads, and the codes of a call's label
pub record Spelled : Type 0 where
  pub leads : LinkTexts
  pub label : List ℕ

abbrev pub spelled : LinkTexts → List ℕ → Spelled
spelled leads label = record { leads = leads; label = label }

abbrev pub nowhere : LinkTexts
nowhere = link_texts [] None

abbrev pub no_spelled : Spelled
no_spelled = spelled nowhere []

-- ---- as they are held

abbrev pub range_text : List ℕ → Range → List ℕ
range_text text r = if nat_le r.start r.end && nat_le r.end (length text) then valid (take (r.end - r.start) (drop r.start text)) else []

-- given where the definitions lead by their places
abbrev pub target_view : (ℕ → LinkTexts) → List ℕ → SpelledTarget → Spelled
target_view at text (targets.Resource destination title) =
    spelled (link_texts (content_codes (range_text text destination)) (Some (content_codes (range_text text title)))) []
target_view at text (targets.Definition place) = spelled (at place) []
target_view at text targets.Nowhere = spelled nowhere []
target_view at text (targets.Call label) = spelled nowhere (content_codes (range_text text label))

abbrev pub targets_view : {A : Type 0} → (ℕ → LinkTexts) → SpelledStrings A → List Spelled
targets_view at strings = map (target_view at (string_bytes strings.text)) (reverse strings.targets.items)

abbrev pub raws_view : {A : Type 0} → SpelledStrings A → List (List ℕ)
raws_view strings = map (range_text (string_bytes strings.text)) strings.raw_texts.items

-- ---- by events

-- raw text before others, if it isn't one piece of the bytes
abbrev pub joined_before : Option (List ℕ) → List ℕ → List (List ℕ) → List (List ℕ)
joined_before None raw others = raw ∷ others
joined_before (Some piece) raw others = others

module _ (bytes : List ℕ) where
  abbrev pub first_raw : Option Name → List Event → List (List ℕ) → List (List ℕ)
  first_raw None events others = others
  first_raw (Some sequence) events others = joined_before (whole_by bytes sequence events) (raw_after bytes sequence false 0 events) others

  abbrev pub raws_next : Kind → Name → List Event → List (List ℕ) → List (List ℕ)
  raws_next Enter name events others = first_raw (sequence_of name) events others
  raws_next Exit name events others = others

  abbrev pub raws_by : List Event → List (List ℕ)
  raws_by [] = []
  raws_by (e ∷ es) = raws_next e.kind e.name es (raws_by es)

module _ (names : Names) (bytes : List ℕ) (leads : Target → LinkTexts) where
  -- of this name, by the events after its enter
  abbrev pub spelled_by : Name → List Event → Spelled
  spelled_by name events =
      if same_name name n.GfmFootnoteCall then spelled nowhere (label_by names bytes events) else spelled (leads (target_by names bytes events)) []

  abbrev pub first_target : Name → List Event → List Spelled → List Spelled
  first_target name events others = if is_listed media_names name then spelled_by name events ∷ others else others

  abbrev pub targets_next : Kind → Name → List Event → List Spelled → List Spelled
  targets_next Enter name events others = first_target name events others
  targets_next Exit name events others = others

  abbrev pub targets_by : List Event → List Spelled
  targets_by [] = []
  targets_by (e ∷ es) = targets_next e.kind e.name es (targets_by es)

-- strings that were read from these events
pub record AreSpelled {A : Type 0} (names : Names) (bytes : List ℕ) (leads : Target → LinkTexts) (at : ℕ → LinkTexts) (strings : SpelledStrings A)
    (events : List Event) : Type 0 where
  pub targets : targets_view at strings ≡ targets_by names bytes leads events
  pub raws : raws_view strings ≡ raws_by bytes events
