-- Bytes that are no text.
use Rattle.std.specs.Prelude.{ℕ, List, [], ◌∷◌}
use Rattle.std.specs.Str.Lossy.{replacement_bytes}

-- U+FFFD for bytes that are no text, where there are some
abbrev pub replacement_of : List ℕ → List ℕ
replacement_of [] = []
replacement_of (b ∷ bs) = replacement_bytes
