-- Targets and raw texts, event by event.
use Rattle.std.proofs.Common.{◌≡◌, ◌<◌, ℕ, ◌+◌, Bool, true, false, if◌then◌else◌, List, ◌∷◌, drop, length, is_some, Option, None, Some, refl, ap, ◌∙◌, get_or}
use Rattle.compile_strings.proofs.Prelude.{drop_next, Event, is_listed, Kind, LinkTexts, media_names, Name, Names, no_event, raw_after, raws_by, raws_next}
use Rattle.compile_strings.proofs.Prelude.{sequence_of, Spelled, spelled_by, Target, targets_by, whole_by}
use Rattle.engine_events.specs.declared.event.Kind.TheVariants.{Enter, Exit}
use Rattle.compile_strings.specs.Spelled.{targets_next, joined_before, first_raw}

-- raw text that is one piece isn't joined
pub whole_next : (bytes : List ℕ) (kind : Kind) (name sequence : Name) (events : List Event) (piece : List ℕ) (others : List (List ℕ))
    → Some sequence ≡ sequence_of name → Some piece ≡ whole_by bytes sequence events → others ≡ raws_next bytes kind name events others
whole_next bytes Exit name sequence events piece others s w = refl
whole_next bytes Enter name sequence events piece others s w =
    ap (λ (z : Option (List ℕ)). joined_before z (raw_after bytes sequence false 0 events) others) w
    ∙ ap (λ (z : Option Name). first_raw bytes z events others) s

pub not_some : (o : Option Name) → is_some o ≡ false → o ≡ None
not_some None h = refl
not_some (Some name) h = absurd (let f : true ≡ false = h in cc)

module _ (events : List Event) where
  abbrev event_at : ℕ → Event
  event_at i = get_or events i no_event

  pub raws_are : (bytes : List ℕ) (i : ℕ) → i < length events
      → raws_by bytes (drop i events) ≡ raws_next bytes (event_at i).kind (event_at i).name (drop (i + 1) events) (raws_by bytes (drop (i + 1) events))
  raws_are bytes i l = ap (raws_by bytes) (drop_next events i l)

  -- what isn't raw text has none
  pub raws_other : (bytes : List ℕ) (i : ℕ) → i < length events → sequence_of (event_at i).name ≡ None
      → raws_by bytes (drop i events) ≡ raws_by bytes (drop (i + 1) events)
  raws_other bytes i l none = raws_are bytes i l ∙ by_kind (event_at i).kind
    where
      by_kind : (kind : Kind)
          → raws_next bytes kind (event_at i).name (drop (i + 1) events) (raws_by bytes (drop (i + 1) events)) ≡ raws_by bytes (drop (i + 1) events)
      by_kind Enter = ap (λ (z : Option Name). first_raw bytes z (drop (i + 1) events) (raws_by bytes (drop (i + 1) events))) none
      by_kind Exit = refl

  module _ (names : Names) (bytes : List ℕ) (leads : Target → LinkTexts) where
    abbrev others : ℕ → List Spelled
    others i = targets_by names bytes leads (drop (i + 1) events)

    targets_are : (i : ℕ) (kind : Kind) → i < length events → (event_at i).kind ≡ kind
        → targets_by names bytes leads (drop i events) ≡ targets_next names bytes leads kind (event_at i).name (drop (i + 1) events) (others i)
    targets_are i kind l h =
        ap (targets_by names bytes leads) (drop_next events i l)
        ∙ ap (λ (z : Kind). targets_next names bytes leads z (event_at i).name (drop (i + 1) events) (others i)) h

    pub targets_exit : (i : ℕ) → i < length events → (event_at i).kind ≡ Exit → targets_by names bytes leads (drop i events) ≡ others i
    targets_exit i l h = targets_are i Exit l h

    targets_enter : (i : ℕ) (media : Bool) → i < length events → (event_at i).kind ≡ Enter → is_listed media_names (event_at i).name ≡ media
        → targets_by names bytes leads (drop i events)
        ≡ (if media then spelled_by names bytes leads (event_at i).name (drop (i + 1) events) ∷ others i else others i)
    targets_enter i media l h m =
        targets_are i Enter l h
        ∙ ap (λ (t : Bool). if t then spelled_by names bytes leads (event_at i).name (drop (i + 1) events) ∷ others i else others i) m

    pub targets_media : (i : ℕ) → i < length events → (event_at i).kind ≡ Enter → is_listed media_names (event_at i).name ≡ true
        → targets_by names bytes leads (drop i events) ≡ spelled_by names bytes leads (event_at i).name (drop (i + 1) events) ∷ others i
    targets_media i l h m = targets_enter i true l h m

    pub targets_other : (i : ℕ) → i < length events → is_listed media_names (event_at i).name ≡ false
        → targets_by names bytes leads (drop i events) ≡ others i
    targets_other i l m = by_kind (event_at i).kind refl
      where
        by_kind : (kind : Kind) → (event_at i).kind ≡ kind → targets_by names bytes leads (drop i events) ≡ others i
        by_kind Enter h = targets_enter i false l h m
        by_kind Exit h = targets_exit i l h
