-- Texts in which some bytes are printed as something else.
use Rattle.std.specs.Prelude.{ℕ, List, [], ◌∷◌, ◌++◌}

-- a text, each byte as `at` says, given those after it
abbrev pub replace_bytes : (ℕ → List ℕ → List ℕ) → List ℕ → List ℕ
replace_bytes at [] = []
replace_bytes at (b ∷ bs) = at b bs ++ replace_bytes at bs
