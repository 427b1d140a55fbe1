-- The slugs of an outline are those of its texts.
use Rattle.std.proofs.Common.{◌≡◌, ◌+◌, ℕ, Bool, true, false, if◌then◌else◌, List, [], ◌∷◌, ◌++◌, map, refl, sym, ap, ◌∙◌, append_assoc}
use Rattle.std.specs.List.{fold}
use Rattle.std.proofs.lemmas.List.{append-nil}
use Rattle.definition_inline.specs.CharacterReference.{Names}
use Rattle.engine_events.specs.declared.event.Event.{Event}
use Rattle.definition_page.specs.Slug.{next_slug, with_slug}
use Rattle.markdown_outline.specs.Laws.{OutlineSlugsLaw}
use Rattle.markdown_outline.specs.Listed.{Listed, begins_heading, headings_from, listed_at}

abbrev texts_in : List Listed → List (List ℕ)
texts_in hs = map (λ (h : Listed). h.text) hs

abbrev slugs_in : List Listed → List (List ℕ)
slugs_in hs = map (λ (h : Listed). h.slug) hs

-- a heading and those after it, or others
either : (b : Bool) (taken : List (List ℕ)) (one : Listed) (more others : List Listed) → one.slug ≡ next_slug taken one.text
    → fold with_slug (taken ++ one.slug ∷ []) (texts_in more) ≡ (taken ++ one.slug ∷ []) ++ slugs_in more
    → fold with_slug taken (texts_in others) ≡ taken ++ slugs_in others
    → fold with_slug taken (texts_in (if b then one ∷ more else others)) ≡ taken ++ slugs_in (if b then one ∷ more else others)
either true taken one more others is h k =
    ap (λ (slug : List ℕ). fold with_slug (taken ++ slug ∷ []) (texts_in more)) (sym is) ∙ h ∙ append_assoc taken (one.slug ∷ []) (slugs_in more)
either false taken one more others is h k = k

module _ (names : Names) (bytes : List ℕ) where
  slugs_from : (taken : List (List ℕ)) (i : ℕ) (es : List Event)
      → fold with_slug taken (texts_in (headings_from names bytes taken i es)) ≡ taken ++ slugs_in (headings_from names bytes taken i es)
  slugs_from taken i [] = sym (append-nil taken)
  slugs_from taken i (e ∷ es) =
      either (begins_heading e.kind e.name) taken (listed_at names bytes taken i e es)
      (headings_from names bytes (taken ++ (listed_at names bytes taken i e es).slug ∷ []) (i + 1) es) (headings_from names bytes taken (i + 1) es) refl
      (slugs_from (taken ++ (listed_at names bytes taken i e es).slug ∷ []) (i + 1) es) (slugs_from taken (i + 1) es)

pub outline_slugs_law : OutlineSlugsLaw
outline_slugs_law names bytes events = sym (slugs_from names bytes [] 0 events)
