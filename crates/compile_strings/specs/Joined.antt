-- Strings while they are read: what is joined later changes none of them.
use Rattle.std.specs.Prelude.{◌≡◌, ℕ, false, List, [], ◌∷◌, ◌++◌, length, map, reverse, string_bytes, Option, None, Some}
use Rattle.engine_events.specs.declared.event.Event.{Event}
use Rattle.engine_events.specs.declared.event.Name.{Name}
use Rattle.engine_events.specs.declared.event.Name.TheVariants as n
use Rattle.definition_inline.specs.CharacterReference.{Names}
use Rattle.definition_inline.specs.Inline.{LinkTexts, link_texts}
use Rattle.event_meaning.specs.Strings.{written}
use Rattle.event_references.specs.Views.{text_at}
use Rattle.compile_strings.specs.RawTexts.{raw_after}
use Rattle.compile_strings.specs.Spelled.{Spelled, range_text, target_view}
use Rattle.compile_strings.specs.Targets.{own_from, string_first}
use Rattle.compile_strings.specs.declared.spelled.Range.{Range}
use Rattle.compile_strings.specs.declared.spelled.SpelledTarget.{SpelledTarget}
use Rattle.compile_strings.specs.declared.spelled.SpelledTarget.TheVariants as targets
use Rattle.compile_strings.specs.declared.spelled.SpelledStrings.{SpelledStrings}

-- a piece was joined to a text at this range
pub record IsJoined (old new : List ℕ) (r : Range) (piece : List ℕ) : Type 0 where
  pub text : new ≡ old ++ piece
  pub start : r.start ≡ length old
  pub end : r.end ≡ length new

-- what a target is made of was joined to a text, and later pieces don't change it
pub record IsTarget (at : ℕ → LinkTexts) (old new : List ℕ) (target : SpelledTarget) (is : Spelled) : Type 0 where
  pub joined : List ℕ
  pub text : new ≡ old ++ joined
  pub each : (later : List ℕ) → target_view at (new ++ later) target ≡ is

-- what names the definition that was found, if any
abbrev pub found_target : Option ℕ → SpelledTarget
found_target None = targets.Nowhere
found_target (Some place) = targets.Definition place

-- the destination and the title of a resource, by the events after the enter of a link or an image
abbrev pub resource_by : Names → List ℕ → List Event → LinkTexts
resource_by names bytes events =
    link_texts (written (string_first names bytes (own_from n.ResourceDestinationString 0 events)))
    (Some (written (string_first names bytes (own_from n.ResourceTitleString 0 events))))

-- with the raw texts that are still to be joined these are all
pub record HaveRaws {A : Type 0} (strings : SpelledStrings A) (others raws : List (List ℕ)) : Type 0 where
  pub each : (later : List ℕ) → map (range_text (string_bytes strings.text ++ later)) strings.raw_texts.items ++ others ≡ raws

-- the targets are these, the first first
pub record HaveTargets {A : Type 0} (at : ℕ → LinkTexts) (strings : SpelledStrings A) (targets : List Spelled) : Type 0 where
  pub each : (later : List ℕ) → map (target_view at (string_bytes strings.text ++ later)) (reverse strings.targets.items) ≡ targets

-- raw text between sequences of a name before others, if it is to be joined
abbrev pub joined_first : List ℕ → Option Name → List Event → List (List ℕ) → List (List ℕ)
joined_first bytes None events others = others
joined_first bytes (Some sequence) events others = raw_after bytes sequence false 0 events ∷ others

-- the bytes of the label at an index, or none
abbrev pub label_at : List ℕ → List Event → Option ℕ → List ℕ
label_at bytes events None = []
label_at bytes events (Some index) = text_at bytes events index
