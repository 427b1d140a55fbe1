use Rattle.std.proofs.Common.{◌≡◌, ◌∙◌, ℕ, Bool, true, false, ◌&&◌, List, Option, None, Some, is_some, refl, sym, ap}
use Rattle.std.specs.Borrow.{Bor}
use Rattle.std.specs.Option.{option_copied}
use Rattle.std.specs.Str.{IsUtf8, is_utf8}
use Rattle.std.proofs.lemmas.Str.{IsUtf8-from_is_utf8, is_utf8-from_IsUtf8}
use Rattle.state_leaves.proofs.character_reference.has_text.Goals as goal

-- what is UTF-8 has its text, and what isn't has none
is_text : (name : List ℕ) (known : Bool) → IsUtf8 name → known ≡ (is_utf8 name && known)
is_text name known h = sym (ap (λ (b : Bool). b && known) (is_utf8-from_IsUtf8 name h))

copied_some : (o : Option (Bor (List ℕ))) → is_some o ≡ is_some (option_copied o)
copied_some None = refl
copied_some (Some r) = refl

no_text : (b known : Bool) → (b ≡ true → ⊥) → false ≡ (b && known)
no_text true known h = absurd (h refl)
no_text false known h = refl

pub returns-in-Ok : goal.returns-in-Ok
returns-in-Ok g c =
    c.is_some.ensures ∙ (copied_some c.reference.result
    ∙ (ap is_some (c.reference.ensures ∙ ap (g.T.Tables.reference_of c.args.tables.now) c.in-Ok.ensures.cases.0)
    ∙ is_text c.args.name.now _ c.in-Ok.ensures.cases.1))

pub returns-in-Err : goal.returns-in-Err
returns-in-Err g c = no_text (is_utf8 c.args.name.now) _ (λ e. c.in-Err.ensures.cases.0 (IsUtf8-from_is_utf8 c.args.name.now e))
