-- A byte at the end of a text.
use Rattle.std.specs.Prelude.{ℕ, if◌then◌else◌, ◌==◌, List, [], ◌∷◌}

-- a text without this byte at its end
abbrev pub without_last : ℕ → List ℕ → List ℕ
without_last byte [] = []
without_last byte (b ∷ []) = if b == byte then [] else b ∷ []
without_last byte (b ∷ c ∷ cs) = b ∷ without_last byte (c ∷ cs)
