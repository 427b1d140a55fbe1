use Rattle.std.proofs.Common.{◌≡◌, ◌∙◌, ℕ, Bool, true, false, List, Option, None, if◌then◌else◌, refl, sym, ap, slice_get}
use Rattle.std.specs.Str.{IsUtf8, chars, is_utf8}
use Rattle.std.proofs.lemmas.Str.{IsUtf8-from_is_utf8, is_utf8-from_IsUtf8}
use Rattle.engine_text.specs.Bytes.{first_code}
use Rattle.engine_text.proofs.bytes.first_code.Goals as goal

-- what is UTF-8 has a first character, and what isn't has none
is_first : (text : List ℕ) → IsUtf8 text → slice_get (chars text) 0 ≡ first_code text
is_first text h = sym (ap (λ (b : Bool). if b then slice_get (chars text) 0 else None) (is_utf8-from_IsUtf8 text h))

no_first : (b : Bool) (code : Option ℕ) → (b ≡ true → ⊥) → None ≡ (if b then code else None)
no_first true code h = absurd (h refl)
no_first false code h = refl

pub returns-in-Ok : goal.returns-in-Ok
returns-in-Ok c =
    c.first_of.ensures ∙ (ap (λ (t : List ℕ). slice_get (chars t) 0) c.in-Ok.ensures.cases.0 ∙ is_first c.args.text.now c.in-Ok.ensures.cases.1)

pub returns-in-Err : goal.returns-in-Err
returns-in-Err c = no_first (is_utf8 c.args.text.now) _ (λ e. c.in-Err.ensures.cases.0 (IsUtf8-from_is_utf8 c.args.text.now e))
