-- A text is decoded to one text.
use Rattle.std.proofs.Common.{◌≡◌, ℕ, zero, suc, ◌≤◌, List, [], ◌∷◌, ◌++◌, Option, None, Some, ◌⊎◌, length, refl, sym, ap, ◌∙◌, subst, inl, inr, arith}
use Rattle.std.proofs.Common.{length-append}
use Rattle.definition_text.specs.Content.{Part, part}
use Rattle.definition_inline.specs.CharacterReference.{CharacterName, Names}
use Rattle.definition_inline.specs.Decoded.{known_at, decode}
use Rattle.inline_references.specs.Grammar.{IsWritten, name, digits, lower_x, upper_x, NoReference, Decodes, nothing, known, kept, DecodesDecoded, DecodesAlone}
use Rattle.inline_references.proofs.Decoding.{known_written, known_has, decoded_known, decoded_other}

-- a reference has a byte
front_some : (front : List ℕ) (n : CharacterName) → IsWritten front n → 1 ≤ length front
front_some front _ (name value h) = omega arith
front_some front _ (digits value h) = omega arith
front_some front _ (lower_x value h) = omega arith
front_some front _ (upper_x value h) = omega arith

-- nothing is known where no reference is
none_known : (names : Names) (bytes : List ℕ) → NoReference names bytes → (found : Option Part) → known_at names bytes ≡ found → known_at names bytes ≡ None
none_known names bytes free None e = e
none_known names bytes free (Some p) e = let has = known_has names bytes p e in absurd (free has.front p.rest p.text has.name has.written has.text has.is)

kept_decoded : (names : Names) (b : ℕ) (bs : List ℕ) → NoReference names (b ∷ bs) → decode names (b ∷ bs) ≡ b ∷ decode names bs
kept_decoded names b bs free = decoded_other names b bs (none_known names (b ∷ bs) free (known_at names (b ∷ bs)) refl)

pub decodes_alone : DecodesAlone
decodes_alone names text out nothing = refl
decodes_alone names text out (known front rest t o n w e d) =
    decoded_known names (front ++ rest) (part t rest) (known_written names front rest t n w e) ∙ ap (λ x. t ++ x) (decodes_alone names rest o d)
decodes_alone names text out (kept b bs o free d) = kept_decoded names b bs free ∙ ap (λ x. b ∷ x) (decodes_alone names bs o d)

-- a known reference begins here, or none
abbrev Decided : Names → List ℕ → Type 0
Decided names bytes = ((p : Part) × (known_at names bytes ≡ Some p)) ⊎ NoReference names bytes

decided : (names : Names) (bytes : List ℕ) (found : Option Part) → known_at names bytes ≡ found → Decided names bytes
decided names bytes (Some p) e = inl (p, e)
decided names bytes None e = inr (λ front rest text n w t is.
    let no : None ≡ Some (part text rest) = sym e ∙ ap (known_at names) is ∙ known_written names front rest text n w t in
    cc)

decodes_within : (n : ℕ) (names : Names) (text : List ℕ) → length text ≤ n → Decodes names text (decode names text)
decodes_within n names [] le = nothing
decodes_within zero names (b ∷ bs) le = absurd (omega arith)
decodes_within (suc n) names (b ∷ bs) le =
    elim (decided names (b ∷ bs) (known_at names (b ∷ bs)) refl) [
      | inl (p, e) ↦
          let has = known_has names (b ∷ bs) p e in
          let shorter : length p.rest ≤ n = omega (arith, ap length has.is, length-append has.front p.rest, front_some has.front has.name has.written) in
          let d = known has.front p.rest p.text (decode names p.rest) has.name has.written has.text (decodes_within n names p.rest shorter) in
          subst (λ (o : List ℕ). Decodes names (b ∷ bs) o) (sym (decoded_known names (b ∷ bs) p e))
          (subst (λ (x : List ℕ). Decodes names x (p.text ++ decode names p.rest)) (sym has.is) d)
      | inr free ↦
          subst (λ (o : List ℕ). Decodes names (b ∷ bs) o) (sym (kept_decoded names b bs free))
          (kept b bs (decode names bs) free (decodes_within n names bs (omega arith)))
    ]

pub decodes_decoded : DecodesDecoded
decodes_decoded names text = decodes_within (length text) names text (omega arith)
