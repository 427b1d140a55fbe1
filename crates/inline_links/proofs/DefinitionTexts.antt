-- The destination and the title of a definition of a text are texts.
use Rattle.std.proofs.Common.{◌≡◌, ℕ, List, [], ◌∷◌, eqb, Option, None, Some, refl, sym, ap, ◌∙◌, inl, inr, subst}
use Rattle.inline_links.proofs.Prelude.{after_spaces, after_white, begins_with_space, cases_Bool, cond-false, cond-true, definition_at, destination_at}
use Rattle.inline_links.proofs.Prelude.{eqb-true, IfSome, IsText, label_at, none-some, Part, title_at}
use Rattle.definition_inline.specs.Definition.{Definition, definition, next_line, definition_with_title}
use Rattle.definition_inline.proofs.PartSteps.{definition_before, with_title, or_definition_without_title, with_destination, with_colon, with_label}
use Rattle.inline_links.proofs.Splits.{from_some, is_ascii_code}
use Rattle.inline_links.proofs.Texts.{around, destination_text, label_text, spaces_text, title_text, white_text}

pub record DefinitionTexts (d : Definition) : Type 0 where
  pub destination : IsText d.destination
  pub title : IfSome d.title IsText

before_texts : (label destination : List ℕ) (title next : Option (List ℕ)) (d : Definition) → IsText destination → IfSome title IsText
    → definition_before label destination title next ≡ Some d → DefinitionTexts d
before_texts label destination title None d t u e = absurd (none-some d e)
before_texts label destination title (Some rest) d t u e =
    let same = from_some (definition label destination title rest) d e in
    record { destination = subst (λ q. IsText q.destination) same t; title = subst (λ q. IfSome q.title IsText) same u }

title_texts : (label destination : List ℕ) (o : Option Part) (d : Definition) → IsText destination → ((p : Part) → o ≡ Some p → IsText p.text)
    → with_title label destination o ≡ Some d → DefinitionTexts d
title_texts label destination None d t h e = absurd (none-some d e)
title_texts label destination (Some p) d t h e = before_texts label destination (Some p.text) (next_line p.rest) d t (h p refl) e

titled_texts : (label : List ℕ) (p : Part) (d : Definition) → IsText p.text → IsText p.rest → definition_with_title label p ≡ Some d → DefinitionTexts d
titled_texts label p d t rest e = elim (cases_Bool (begins_with_space p.rest)) [
  | inl h ↦
      let next = after_white p.rest in
      title_texts label p.text (title_at next) d t (λ q f. (title_text next q (white_text p.rest rest).text f).text)
      (sym (cond-true (begins_with_space p.rest) _ _ h) ∙ e)
  | inr h ↦ absurd (none-some d (sym (cond-false (begins_with_space p.rest) _ _ h) ∙ e))
]

or_untitled_texts : (label : List ℕ) (p : Part) (o : Option Definition) (d : Definition) → IsText p.text
    → ((found : Definition) → o ≡ Some found → DefinitionTexts found)
    → or_definition_without_title label p o ≡ Some d → DefinitionTexts d
or_untitled_texts label p None d t h e = before_texts label p.text None (next_line p.rest) d t tt e
or_untitled_texts label p (Some found) d t h e = h d e

destination_texts : (label : List ℕ) (o : Option Part) (d : Definition) → ((p : Part) → o ≡ Some p → IsText p.text × IsText p.rest)
    → with_destination label o ≡ Some d → DefinitionTexts d
destination_texts label None d h e = absurd (none-some d e)
destination_texts label (Some p) d h e =
    let k = h p refl in
    or_untitled_texts label p (definition_with_title label p) d k.0 (λ found f. titled_texts label p found k.0 k.1 f) e

colon_texts : (label cs : List ℕ) (d : Definition) → IsText cs → with_colon label cs ≡ Some d → DefinitionTexts d
colon_texts label [] d t e = absurd (none-some d e)
colon_texts label (c ∷ cs) d t e = elim (cases_Bool (eqb c 58)) [
  | inl h ↦
      let w = white_text cs (around [] cs c (ap is_ascii_code (eqb-true c 58 h)) t).1 in
      destination_texts label (destination_at None (after_white cs)) d
      (λ p f. let k = destination_text None (after_white cs) p w.text f in (k.text, k.rest))
      (sym (cond-true (eqb c 58) _ _ h) ∙ e)
  | inr h ↦ absurd (none-some d (sym (cond-false (eqb c 58) _ _ h) ∙ e))
]

label_texts : (o : Option Part) (d : Definition) → ((p : Part) → o ≡ Some p → IsText p.rest) → with_label o ≡ Some d → DefinitionTexts d
label_texts None d h e = absurd (none-some d e)
label_texts (Some p) d h e = colon_texts p.text p.rest d (h p refl) e

pub definition_texts : (cs : List ℕ) (d : Definition) → IsText cs → definition_at cs ≡ Some d → DefinitionTexts d
definition_texts cs d t e =
    label_texts (label_at (after_spaces cs)) d (λ p f. (label_text (after_spaces cs) p (spaces_text cs t).text f).rest) e
