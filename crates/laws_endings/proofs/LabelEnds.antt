-- What a `]` forms, in a content with another ending in place of each LF.
use Rattle.std.proofs.Common.{◌≡◌, ℕ, ◌-◌, List, [], ◌∷◌, None, Some, Option, Bool, true, false, cond, not, ◌&&◌, ◌||◌, eqb, refl, ap, ◌∙◌, length}
use Rattle.laws_endings.proofs.Prelude.{after_white, begins_with, begins_with_space, by_label, by_resource, by_text, bytes_eq, call_or_link, called_label}
use Rattle.laws_endings.proofs.Prelude.{Calls, code_with, codes, codes_with, Constructs, destination_at, ends_label, is_label, label_at, label_end_at, Leads}
use Rattle.laws_endings.proofs.Prelude.{length-map, LineEnding, link_or_image, LinkOrCall, LinkResource, LinkTail, may_escape, opens_title, option_map, Part}
use Rattle.laws_endings.proofs.Prelude.{Reference, Resource, resource_at, resource_end, resource_inside, resource_with_destination, resource_with_title}
use Rattle.laws_endings.proofs.Prelude.{target_with, title_at}
use Rattle.definition_inline.specs.Resource.{after_destination}
use Rattle.definition_inline.specs.LabelEnd.{link_tail, has_no_bracket, is_label_text}
use Rattle.laws_endings.proofs.Codes.{cond-under, same_code, part_with}
use Rattle.laws_endings.proofs.Labels.{after_white-with, begins_with_space-with, is_label-with, label_at-with, destination_at-with, title_at-with}

abbrev link_resource : List ℕ → Option (List ℕ) → List ℕ → LinkResource
link_resource destination title rest = record { destination = destination; title = title; rest = rest }

module _ (e : LineEnding) where
  abbrev if_codes : Option (List ℕ) → Option (List ℕ)
  if_codes end = option_map (codes_with e) end

  abbrev if_part : Option Part → Option Part
  if_part p = option_map (part_with e) p

  -- ---- resources

  abbrev resource_with : LinkResource → LinkResource
  resource_with r = link_resource (codes_with e r.destination) (if_codes r.title) (codes_with e r.rest)

  abbrev if_resource : Option LinkResource → Option LinkResource
  if_resource r = option_map resource_with r

  resource_end-with : (destination : List ℕ) (title : Option (List ℕ)) (cs : List ℕ)
      → resource_end (codes_with e destination) (if_codes title) (codes_with e cs) ≡ if_resource (resource_end destination title cs)
  resource_end-with destination title [] = refl
  resource_end-with destination title (c ∷ cs) =
      same_code e (λ x. cond (eqb x 41) (Some (link_resource (codes_with e destination) (if_codes title) (codes_with e cs))) None) c refl refl
      ∙ cond-under if_resource (eqb c 41) refl refl

  with_title-with : (destination : List ℕ) (title : Option Part)
      → resource_with_title (codes_with e destination) (if_part title) ≡ if_resource (resource_with_title destination title)
  with_title-with destination None = refl
  with_title-with destination (Some title) =
      ap (resource_end (codes_with e destination) (Some (codes_with e title.text))) (after_white-with e title.rest)
      ∙ resource_end-with destination (Some title.text) (after_white title.rest)

  opens_title-with : (cs : List ℕ) → opens_title (codes_with e cs) ≡ opens_title cs
  opens_title-with [] = refl
  opens_title-with (c ∷ cs) = same_code e (λ x. eqb x 34 || (eqb x 39 || eqb x 40)) c refl refl

  after_destination-with : (destination : Part) → after_destination (part_with e destination) ≡ if_resource (after_destination destination)
  after_destination-with destination =
      let text = codes_with e destination.text in
      let next = after_white destination.rest in
      let either : Bool → List ℕ → Option LinkResource = λ titled more. cond titled (resource_with_title text (title_at more)) (resource_end text None more) in
      ap (λ more. either (begins_with_space (codes_with e destination.rest) && opens_title more) more) (after_white-with e destination.rest)
      ∙ ap (λ space. either (space && opens_title (codes_with e next)) (codes_with e next)) (begins_with_space-with e destination.rest)
      ∙ ap (λ opens. either (begins_with_space destination.rest && opens) (codes_with e next)) (opens_title-with next)
      ∙ cond-under if_resource (begins_with_space destination.rest && opens_title next)
      (ap (resource_with_title text) (title_at-with e next) ∙ with_title-with destination.text (title_at next))
      (resource_end-with destination.text None next)

  with_destination-with : (destination : Option Part) → resource_with_destination (if_part destination) ≡ if_resource (resource_with_destination destination)
  with_destination-with None = refl
  with_destination-with (Some destination) = after_destination-with destination

  resource_inside-with : (cs : List ℕ) → resource_inside (codes_with e cs) ≡ if_resource (resource_inside cs)
  resource_inside-with [] = refl
  resource_inside-with (c ∷ cs) =
      let all = codes_with e (c ∷ cs) in
      same_code e (λ x. cond (eqb x 41) (resource_end [] None all) (resource_with_destination (destination_at (Some 32) all))) c refl refl
      ∙ cond-under if_resource (eqb c 41) (resource_end-with [] None (c ∷ cs))
      (ap resource_with_destination (destination_at-with e (Some 32) (c ∷ cs)) ∙ with_destination-with (destination_at (Some 32) (c ∷ cs)))

  resource_at-with : (cs : List ℕ) → resource_at (codes_with e cs) ≡ if_resource (resource_at cs)
  resource_at-with [] = refl
  resource_at-with (c ∷ cs) =
      same_code e (λ x. cond (eqb x 40) (resource_inside (after_white (codes_with e cs))) None) c refl refl
      ∙ cond-under if_resource (eqb c 40) (ap resource_inside (after_white-with e cs) ∙ resource_inside-with (after_white cs)) refl

  -- ---- some bytes

  -- bytes that no ending is the same as
  abbrev pub AreApart : List ℕ → Type 0
  AreApart [] = true ≡ true
  AreApart (b ∷ bs) = (eqb b 13 ≡ eqb b 10) × ((eqb b 257 ≡ eqb b 10) × AreApart bs)

  pub begins-with : (text cs : List ℕ) → AreApart text → begins_with text (codes_with e cs) ≡ begins_with text cs
  begins-with [] cs h = refl
  begins-with (b ∷ bs) [] h = refl
  begins-with (b ∷ bs) (c ∷ cs) h =
      ap (λ same. same && begins_with bs (codes_with e cs)) (same_code e (λ x. eqb b x) c h.0 h.1.0)
      ∙ ap (λ more. eqb b c && more) (begins-with bs cs h.1.1)

  pub begins-two : (a b : ℕ) → eqb a 13 ≡ eqb a 10 → eqb a 257 ≡ eqb a 10 → eqb b 13 ≡ eqb b 10 → eqb b 257 ≡ eqb b 10 → (cs : List ℕ)
      → begins_with (a ∷ b ∷ []) (codes_with e cs) ≡ begins_with (a ∷ b ∷ []) cs
  begins-two a b p q r s [] = refl
  begins-two a b p q r s (c ∷ []) =
      same_code e (λ x. bytes_eq (a ∷ b ∷ []) (x ∷ [])) c (ap (λ same. same && false) p) (ap (λ same. same && false) q)
  begins-two a b p q r s (c ∷ d ∷ cs) =
      let second : Bool = eqb b (code_with e d) && true in
      same_code e (λ x. bytes_eq (a ∷ b ∷ []) (x ∷ code_with e d ∷ [])) c (ap (λ same. same && second) p) (ap (λ same. same && second) q)
      ∙ same_code e (λ x. bytes_eq (a ∷ b ∷ []) (c ∷ x ∷ [])) d (ap (λ same. eqb a c && (same && true)) r) (ap (λ same. eqb a c && (same && true)) s)

  -- ---- what a `]` forms

  has_no_bracket-with : (escaped : Bool) (cs : List ℕ) → has_no_bracket escaped (codes_with e cs) ≡ has_no_bracket escaped cs
  has_no_bracket-with escaped [] = refl
  has_no_bracket-with escaped (c ∷ cs) =
      same_code e (λ x. not (ends_label escaped x) && has_no_bracket (may_escape escaped x) (codes_with e cs)) c refl refl
      ∙ ap (λ none. not (ends_label escaped c) && none) (has_no_bracket-with (may_escape escaped c) cs)

  is_label_text-with : (text : List ℕ) → is_label_text (codes_with e text) ≡ is_label_text text
  is_label_text-with text =
      ap (λ none. none && is_label (codes_with e text)) (has_no_bracket-with false text) ∙ ap (λ is. has_no_bracket false text && is) (is_label-with e text)

  abbrev pub ended_with : LinkTail → LinkTail
  ended_with found = link_tail (target_with e found.target) found.size

  abbrev pub if_ended : Option LinkTail → Option LinkTail
  if_ended found = option_map ended_with found

  abbrev pub formed_with : LinkOrCall → LinkOrCall
  formed_with (Leads end) = Leads (ended_with end)
  formed_with (Calls label) = Calls (codes_with e label)

  abbrev pub if_formed : Option LinkOrCall → Option LinkOrCall
  if_formed found = option_map formed_with found

  module _ (is_defined : List ℕ → Bool) (same : (label : List ℕ) → is_defined (codes_with e label) ≡ is_defined label) where
    by_text-with : (text rest : List ℕ) → by_text is_defined (codes_with e text) (codes_with e rest) ≡ if_ended (by_text is_defined text rest)
    by_text-with text rest =
        let found : Bool → Option LinkTail = λ empty. Some (link_tail (Reference (codes_with e text)) (cond empty 2 0)) in
        let empty : Bool = begins_with (codes "[]") (codes_with e rest) in
        ap (λ is. cond (is && is_defined (codes_with e text)) (found empty) None) (is_label_text-with text)
        ∙ ap (λ is. cond (is_label_text text && is) (found empty) None) (same text)
        ∙ ap (λ is. cond (is_label_text text && is_defined text) (found is) None) (begins-two 91 93 refl refl refl refl rest)
        ∙ cond-under if_ended (is_label_text text && is_defined text) refl refl

    by_label-with : (text rest : List ℕ) (label : Option Part)
        → by_label is_defined (codes_with e text) (codes_with e rest) (if_part label) ≡ if_ended (by_label is_defined text rest label)
    by_label-with text rest None = by_text-with text rest
    by_label-with text rest (Some label) =
        let found : ℕ → Option LinkTail = λ size. Some (link_tail (Reference (codes_with e label.text)) size) in
        ap (λ is. cond is (found (length (codes_with e rest) - length (codes_with e label.rest))) None) (same label.text)
        ∙ cond-under if_ended (is_defined label.text)
        (ap (λ n. found (n - length (codes_with e label.rest))) (length-map rest (code_with e))
        ∙ ap (λ n. found (length rest - n)) (length-map label.rest (code_with e)))
        refl

    by_resource-with : (text rest : List ℕ) (resource : Option LinkResource)
        → by_resource is_defined (codes_with e text) (codes_with e rest) (if_resource resource) ≡ if_ended (by_resource is_defined text rest resource)
    by_resource-with text rest None =
        ap (by_label is_defined (codes_with e text) (codes_with e rest)) (label_at-with e rest) ∙ by_label-with text rest (label_at rest)
    by_resource-with text rest (Some resource) =
        let target = target_with e (Resource resource.destination resource.title) in
        ap (λ n. Some (link_tail target (n - length (codes_with e resource.rest)))) (length-map rest (code_with e))
        ∙ ap (λ n. Some (link_tail target (length rest - n))) (length-map resource.rest (code_with e))

    pub label_end_at-with : (text rest : List ℕ)
        → label_end_at is_defined (codes_with e text) (codes_with e rest) ≡ if_ended (label_end_at is_defined text rest)
    label_end_at-with text rest =
        ap (by_resource is_defined (codes_with e text) (codes_with e rest)) (resource_at-with rest) ∙ by_resource-with text rest (resource_at rest)

    -- ---- calls of footnotes

    leads-with : (found : Option LinkTail) → option_map Leads (if_ended found) ≡ if_formed (option_map Leads found)
    leads-with None = refl
    leads-with (Some end) = refl

    pub leading-with : (text rest : List ℕ) → link_or_image is_defined (codes_with e text) (codes_with e rest) ≡ if_formed (link_or_image is_defined text rest)
    leading-with text rest = ap (option_map Leads) (label_end_at-with text rest) ∙ leads-with (label_end_at is_defined text rest)

    pub call_or_link-with : (on : Constructs) (text rest : List ℕ) (call : Option (List ℕ))
        → call_or_link on is_defined (codes_with e text) (codes_with e rest) (if_codes call) ≡ if_formed (call_or_link on is_defined text rest call)
    call_or_link-with on text rest None = cond-under if_formed on.label_start_link (leading-with text rest) refl
    call_or_link-with on text rest (Some label) = refl

  pub called-with : (on : Constructs) (is_footnote : List ℕ → Bool) → ((label : List ℕ) → is_footnote (codes_with e label) ≡ is_footnote label)
      → (text : List ℕ) → called_label on is_footnote (codes_with e text) ≡ if_codes (called_label on is_footnote text)
  called-with on is_footnote same [] = refl
  called-with on is_footnote same (c ∷ label) =
      let other = codes_with e label in
      let may : Bool → Bool = λ is. on.gfm_label_start_footnote && eqb c 94 && is && is_footnote other in
      let call : Bool → Option (List ℕ) = λ is. cond is (Some other) None in
      same_code e (λ x. call (on.gfm_label_start_footnote && eqb x 94 && is_label_text other && is_footnote other)) c refl refl
      ∙ ap (λ is. call (may is)) (is_label_text-with label)
      ∙ ap (λ is. call (on.gfm_label_start_footnote && eqb c 94 && is_label_text label && is)) (same label)
      ∙ cond-under if_codes (on.gfm_label_start_footnote && eqb c 94 && is_label_text label && is_footnote label) refl refl
