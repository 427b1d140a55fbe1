-- URLs that are fragments of the page.
use Rattle.std.specs.Prelude.{ℕ, Bool, false, ◌==◌, List, [], ◌∷◌}
use Rattle.definition_text.specs.Ascii.{number_sign}

-- `#` and more
abbrev pub is_fragment : List ℕ → Bool
is_fragment [] = false
is_fragment (a ∷ []) = false
is_fragment (a ∷ b ∷ bs) = a == number_sign
