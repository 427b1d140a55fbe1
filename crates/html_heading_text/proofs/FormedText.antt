-- Texts in their form.
use Rattle.std.proofs.Common.{◌≡◌, ℕ, List, [], ◌∷◌, ◌++◌, refl, sym, ap, ◌∙◌, append_assoc}
use Rattle.html_heading_text.specs.Forms.{form_bytes}
use Rattle.std.proofs.lemmas.List.Concat.{flat_map-append}
use Rattle.html_heading_text.specs.declared.form.Form.{Form}
use Rattle.html_heading_text.specs.declared.form.Form.TheVariants.{Bytes}
use Rattle.html_heading_text.specs.Forms.{form_byte}

pub formed_bytes : (text : List ℕ) → form_bytes Bytes text ≡ text
formed_bytes [] = refl
formed_bytes (b ∷ bs) = ap (λ s. b ∷ s) (formed_bytes bs)

-- a text and another one after it
pub formed_both : (form : Form) (out front rest whole : List ℕ) → whole ≡ front ++ rest
    → (out ++ form_bytes form front) ++ form_bytes form rest ≡ out ++ form_bytes form whole
formed_both form out front rest whole e =
    append_assoc out (form_bytes form front) (form_bytes form rest)
    ∙ ap (λ s. out ++ s) (sym (flat_map-append (form_byte form) front rest) ∙ ap (form_bytes form) (sym e))
