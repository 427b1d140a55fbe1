-- The bytes of a string's parts.
use Rattle.std.proofs.Common.{◌≡◌, ℕ, List, [], ◌∷◌, refl, ap}
use Rattle.html_inline.proofs.Prelude.{Data, Escape, flat_map, map, string_bytes}

pub escape_texts : (text : List ℕ) → flat_map string_bytes (map Escape text) ≡ text
escape_texts [] = refl
escape_texts (b ∷ bs) = ap (λ s. b ∷ s) (escape_texts bs)

pub data_texts : (text : List ℕ) → flat_map string_bytes (map Data text) ≡ text
data_texts [] = refl
data_texts (b ∷ bs) = ap (λ s. b ∷ s) (data_texts bs)
