-- Texts that call no footnote.
use Rattle.std.proofs.Common.{◌≡◌, ℕ, Bool, true, false, ◌&&◌, cond, eqb, List, [], ◌∷◌, None, Some, refl, ap, ◌∙◌, arith, inl, inr}
use Rattle.std.proofs.lemmas.Bool.{cases_Bool, eqb-true}
use Rattle.markdown_options.specs.declared.configuration.Constructs.{Constructs}
use Rattle.definition_text.specs.Content.{content_codes}
use Rattle.definition_inline.specs.LabelEnd.{is_label_text}
use Rattle.definition_inline.specs.GfmLabelStartFootnote.{called_label}
use Rattle.inline_label_ends.proofs.Rests.{first_byte}

and_false : (a : Bool) → (a && false) ≡ false
and_false true = refl
and_false false = refl

module _ (on : Constructs) (is_footnote : List ℕ → Bool) where
  codes_called : (xs cs : List ℕ) → ((ys : List ℕ) → xs ≡ 94 ∷ ys → ⊥) → content_codes xs ≡ cs → called_label on is_footnote cs ≡ None
  codes_called xs [] none is = refl
  codes_called xs (c ∷ label) none is = elim (cases_Bool (eqb c 94)) [
    | inl h ↦
        let first = first_byte 94 label xs (λ e. omega (arith, e)) (λ e. omega (arith, e)) (is ∙ ap (λ x. x ∷ label) (eqb-true c 94 h)) in
        absurd (none first.0 first.1)
    | inr h ↦
        ap (λ b. cond ((on.gfm_label_start_footnote && b) && is_label_text label && is_footnote label) (Some label) None) h
        ∙ ap (λ b. cond (b && is_label_text label && is_footnote label) (Some label) None) (and_false on.gfm_label_start_footnote)
  ]

  -- a text that doesn't begin with `^` calls none
  pub none_called : (xs : List ℕ) → ((ys : List ℕ) → xs ≡ 94 ∷ ys → ⊥) → called_label on is_footnote (content_codes xs) ≡ None
  none_called xs none = codes_called xs (content_codes xs) none refl
