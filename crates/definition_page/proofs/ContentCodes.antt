-- The codes of a content with its kinds.
use Rattle.std.proofs.Common.{◌≡◌, ℕ, Bool, List, [], ◌∷◌, Option, Some, refl, ap}
use Rattle.markdown_options.specs.declared.beside.Kind.{Kind}
use Rattle.definition_text.specs.InlineCode.{codes_of, with_kinds, next_kind}

-- kinds change no code
pub kinds_codes : (is_punctuation : ℕ → Bool) (previous : Option ℕ) (before after : Kind) (cs : List ℕ)
    → codes_of (with_kinds is_punctuation previous before after cs) ≡ cs
kinds_codes is_punctuation previous before after [] = refl
kinds_codes is_punctuation previous before after (c ∷ cs) =
    ap (λ more. c ∷ more) (kinds_codes is_punctuation (Some c) (next_kind is_punctuation before (c ∷ cs)) after cs)
