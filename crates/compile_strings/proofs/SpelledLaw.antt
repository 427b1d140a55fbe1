-- What a link, an image or a call is made of, by what is held of it.
use Rattle.std.proofs.Common.{◌≡◌, ℕ, zero, suc, ◌+◌, ◌-◌, ◌==◌, Bool, true, false, ◌&&◌, not, if◌then◌else◌, List, [], ◌∷◌, ◌++◌, drop, Option, None, Some}
use Rattle.std.proofs.Common.{refl, sym, ap, ◌∙◌, subst, ◌<◌, length, arith}
use Rattle.std.specs.Prelude.{unwrap_or}
use Rattle.compile_strings.proofs.Prelude.{bytes_between, content_codes, Definition, Event, first_match, found_target, Held, is_utf8, is_utf8-from_IsUtf8}
use Rattle.compile_strings.proofs.Prelude.{IsFoundAt, IsHeld, IsTarget, IsUtf8-from_is_utf8, Kind, label_after, label_at, label_by, label_first, label_or_none}
use Rattle.compile_strings.proofs.Prelude.{label_place, labels_of, leads_to, link_texts, linked_at, linked_by, LinkTexts, Name, Names, nowhere, option_map}
use Rattle.compile_strings.proofs.Prelude.{option_or, own_from, parts_after, PlacesFit, Reference, Resource, same_name, Spelled, spelled, spelled_by, Spot}
use Rattle.compile_strings.proofs.Prelude.{spot_of, string_first, Target, target_by, written}
use Rattle.std.proofs.lemmas.Str.{IsUtf8-nil, IsUtf8-append}
use Rattle.engine_events.specs.declared.event.Kind.TheVariants.{Enter, Exit}
use Rattle.engine_events.specs.declared.event.Name.TheVariants as n
use Rattle.event_grammar.specs.Points.{is_spot}
use Rattle.event_references.specs.Texts.{piece, text_next, text_after}
use Rattle.event_references.specs.Views.{text_at}
use Rattle.compile_written.proofs.PlaceTexts.{between_text, edges_reach}
use Rattle.compile_strings.proofs.JoinedLaw.{defined_target, nowhere_target}

abbrev IsText : List ℕ → Type 0
IsText text = is_utf8 text ≡ true

-- ---- texts of events whose places fit

no_text : IsText []
no_text = is_utf8-from_IsUtf8 [] IsUtf8-nil

both_text : (a b : List ℕ) → IsText a → IsText b → IsText (a ++ b)
both_text a b h k = is_utf8-from_IsUtf8 (a ++ b) (IsUtf8-append a b (IsUtf8-from_is_utf8 a h) (IsUtf8-from_is_utf8 b k))

either_text : (t : Bool) (a b : List ℕ) → IsText a → IsText b → IsText (if t then a else b)
either_text true a b h k = h
either_text false a b h k = k

next_text : (kind : Kind) (name : Name) (quoted depth : ℕ) (others : ℕ → ℕ → List ℕ) → ((q d : ℕ) → IsText (others q d))
    → IsText (text_next kind name quoted depth others)
next_text Enter name quoted depth others h =
    either_text ((quoted == 0) && not (same_name name n.BlockQuotePrefix)) (others quoted (depth + 1)) (others (quoted + 1) depth) (h quoted (depth + 1))
    (h (quoted + 1) depth)
next_text Exit name quoted depth others h =
    either_text (not (quoted == 0)) (others (quoted - 1) depth) (if depth == 0 then [] else others quoted (depth - 1)) (h (quoted - 1) depth)
    (either_text (depth == 0) [] (others quoted (depth - 1)) no_text (h quoted (depth - 1)))

module _ (bytes : List ℕ) where
  text_fits : (es : List Event) (from : Spot) (quoted depth : ℕ) → is_spot bytes from ≡ true → PlacesFit bytes from es
      → IsText (text_after bytes quoted depth from es)
  text_fits [] from quoted depth s p = no_text
  text_fits (e ∷ es) from quoted depth s p =
      both_text (piece bytes quoted from (spot_of e)) (text_next e.kind e.name quoted depth (λ q d. text_after bytes q d (spot_of e) es))
      (either_text (quoted == 0) (bytes_between bytes from (spot_of e)) []
      (between_text bytes from (spot_of e) s p.1 (edges_reach bytes from (spot_of e) p.0)) no_text)
      (next_text e.kind e.name quoted depth (λ q d. text_after bytes q d (spot_of e) es) (λ q d. text_fits es (spot_of e) q d p.1 p.2))

  -- the text of an event
  pub place_text : (index : ℕ) (events : List Event) (at : Spot) → PlacesFit bytes at events → IsText (text_at bytes events index)
  place_text zero [] at p = no_text
  place_text (suc index) [] at p = no_text
  place_text zero (e ∷ es) at p = text_fits es (spot_of e) 0 0 p.1 p.2
  place_text (suc index) (e ∷ es) at p = place_text index es (spot_of e) p.2

  pub label_text : (events : List Event) (at : Spot) (o : Option ℕ) → PlacesFit bytes at events → IsText (label_at bytes events o)
  label_text events at None p = no_text
  label_text events at (Some index) p = place_text index events at p

  -- ---- labels

  module _ (events inside : List Event) (h : Held) (held : IsHeld events inside 0 h) where
    found_by : (o : Option ℕ) (es : List Event) → IsFoundAt events o es → label_first bytes es ≡ option_map (text_at bytes events) o
    found_by None es f = ap (label_first bytes) f
    found_by (Some index) es f = ap (label_first bytes) f.1 ∙ there events index f.0
      where
        there : (events : List Event) (index : ℕ) → index < length events → label_first bytes (drop index events) ≡ Some (text_at bytes events index)
        there [] index l = absurd (omega arith)
        there (e ∷ es) zero l = refl
        there (e ∷ es) (suc index) l = there es index (omega arith)

    or_mapped : (f : ℕ → List ℕ) (a b : Option ℕ) → option_or (option_map f a) (option_map f b) ≡ option_map f (option_or a b)
    or_mapped f None b = refl
    or_mapped f (Some i) b = refl

    label_found : label_after bytes inside ≡ option_map (text_at bytes events) (label_place h)
    label_found =
        ap (λ (t : Bool). if t then None else option_or (label_first bytes (own_from n.ReferenceString 0 inside)) (label_first bytes (own_from n.LabelText 0 inside)))
        held.resource
        ∙ ap (λ (o : Option (List ℕ)). if h.resource then None else option_or o (label_first bytes (own_from n.LabelText 0 inside)))
        (found_by h.reference (own_from n.ReferenceString 0 inside) held.reference)
        ∙ ap (λ (o : Option (List ℕ)). if h.resource then None else option_or (option_map (text_at bytes events) h.reference) o)
        (found_by h.text (own_from n.LabelText 0 inside) held.text)
        ∙ by_resource h.resource
      where
        by_resource : (t : Bool) → (if t then None else option_or (option_map (text_at bytes events) h.reference) (option_map (text_at bytes events) h.text))
            ≡ option_map (text_at bytes events) (if t then None else option_or h.reference h.text)
        by_resource true = refl
        by_resource false = or_mapped (text_at bytes events) h.reference h.text

    module _ (names : Names) where
      codes_at : (o : Option ℕ) → label_or_none names bytes (option_map (text_at bytes events) o) ≡ content_codes (label_at bytes events o)
      codes_at None = refl
      codes_at (Some index) = refl

      label_is : label_by names bytes inside ≡ content_codes (label_at bytes events (label_place h))
      label_is = ap (label_or_none names bytes) label_found ∙ codes_at (label_place h)

      -- ---- what is made of it

      module _ (ds : List Definition) (name : Name) where
        abbrev made : Spelled
        made = spelled_by names bytes (leads_to (linked_by ds)) name inside

        pub call_made : same_name name n.GfmFootnoteCall ≡ true → made ≡ spelled nowhere (content_codes (label_at bytes events (label_place h)))
        call_made c =
            ap (λ (t : Bool). if t then spelled nowhere (label_by names bytes inside) else spelled (leads_to (linked_by ds) (target_by names bytes inside)) []) c
            ∙ ap (spelled nowhere) label_is

        other_made : (target : Target) → same_name name n.GfmFootnoteCall ≡ false → target_by names bytes inside ≡ target
            → made ≡ spelled (leads_to (linked_by ds) target) []
        other_made target c t =
            ap (λ (t : Bool). if t then spelled nowhere (label_by names bytes inside) else spelled (leads_to (linked_by ds) (target_by names bytes inside)) []) c
            ∙ ap (λ (z : Target). spelled (leads_to (linked_by ds) z) []) t

        abbrev destination : List ℕ
        destination = written (string_first names bytes (own_from n.ResourceDestinationString 0 inside))

        abbrev title : List ℕ
        title = written (string_first names bytes (own_from n.ResourceTitleString 0 inside))

        abbrev target_of : Bool → Target
        target_of resource = if resource then Resource destination (Some title) else Reference (label_by names bytes inside)

        pub resource_made : same_name name n.GfmFootnoteCall ≡ false → h.resource ≡ true → made ≡ spelled (link_texts destination (Some title)) []
        resource_made c r = other_made (Resource destination (Some title)) c (ap target_of (held.resource ∙ r))

        abbrev found_place : Option ℕ → LinkTexts
        found_place o = unwrap_or (option_map (linked_at ds) o) nowhere

        pub reference_made : (o : Option ℕ) → same_name name n.GfmFootnoteCall ≡ false → h.resource ≡ false
            → o ≡ first_match (content_codes (label_at bytes events (label_place h))) (labels_of ds) → made ≡ spelled (found_place o) []
        reference_made o c r f =
            other_made (Reference (label_by names bytes inside)) c (ap target_of (held.resource ∙ r))
            ∙ ap (λ (z : List ℕ). spelled (found_place (first_match z (labels_of ds))) []) label_is
            ∙ ap (λ (z : Option ℕ). spelled (found_place z) []) (sym f)

        pub reference_target : (text : List ℕ) → same_name name n.GfmFootnoteCall ≡ false → h.resource ≡ false
            → IsTarget (linked_at ds) text text (found_target (first_match (content_codes (label_at bytes events (label_place h))) (labels_of ds))) made
        reference_target text c r =
            let o = first_match (content_codes (label_at bytes events (label_place h))) (labels_of ds) in
            subst (IsTarget (linked_at ds) text text (found_target o)) (sym (reference_made o c r refl)) (found_is o)
          where
            found_is : (o : Option ℕ) → IsTarget (linked_at ds) text text (found_target o) (spelled (found_place o) [])
            found_is None = nowhere_target (linked_at ds) text
            found_is (Some place) = defined_target (linked_at ds) text place

-- ---- strings by their indices

pub string_at : (names : Names) (bytes : List ℕ) (events : List Event) (index : ℕ)
    → string_first names bytes (drop index events) ≡ parts_after names bytes 0 (drop (index + 1) events)
string_at names bytes events index =
    let next : index + 1 ≡ suc index = omega arith in
    there events index ∙ ap (λ (i : ℕ). parts_after names bytes 0 (drop i events)) (sym next)
  where
    there : (events : List Event) (index : ℕ) → string_first names bytes (drop index events) ≡ parts_after names bytes 0 (drop (suc index) events)
    there [] zero = refl
    there [] (suc index) = refl
    there (e ∷ es) zero = refl
    there (e ∷ es) (suc index) = there es index

pub found_string : (names : Names) (bytes : List ℕ) (events : List Event) (o : Option ℕ) (index : ℕ) (string : List Event) → o ≡ Some index
    → IsFoundAt events o string → parts_after names bytes 0 (drop (index + 1) events) ≡ string_first names bytes string
found_string names bytes events o index string h f =
    let there = subst (λ (z : Option ℕ). IsFoundAt events z string) h f in
    sym (ap (string_first names bytes) there.1 ∙ string_at names bytes events index)

pub no_string : (names : Names) (bytes : List ℕ) (events : List Event) (o : Option ℕ) (string : List Event) → o ≡ None
    → IsFoundAt events o string → [] ≡ written (string_first names bytes string)
no_string names bytes events o string h f =
    let there = subst (λ (z : Option ℕ). IsFoundAt events z string) h f in
    sym (ap (λ (z : List Event). written (string_first names bytes z)) there)
