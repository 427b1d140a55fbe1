-- How a text ends.
use Rattle.std.specs.Prelude.{◌≡◌, ℕ, List, ◌++◌}
use Rattle.std.specs.Char.{encode_utf8}

-- a text whose last character this is
pub record EndsWith (text : List ℕ) (character : ℕ) : Type 0 where
  pub front : List ℕ
  pub same : text ≡ front ++ encode_utf8 character
