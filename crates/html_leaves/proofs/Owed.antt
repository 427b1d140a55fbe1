-- Columns that are left of a tab, before the bytes of a line.
use Rattle.std.proofs.Common.{◌≡◌, ℕ, ◌<◌, zero, suc, List, ◌∷◌, ◌++◌, true, false, refl, ap, get_or}
use Rattle.html_leaves.proofs.Prelude.{bytes_of, code_byte, code_bytes, encode, map, replicate}
use Rattle.std.specs.List.{list_all}
use Rattle.definition_text.specs.Columns.{tab_column, is_byte}
use Rattle.text_pieces.proofs.Pieces.{only_bytes}

-- ---- in code they are spaces

pub code_owed : (n : ℕ) (text : List ℕ) → ((k : ℕ) → get_or text k 0 < 256)
    → encode (map code_byte (replicate n tab_column ++ text)) ≡ replicate n 32 ++ encode text
code_owed zero text h = ap encode (code_bytes text h)
code_owed (suc n) text h = ap (λ x. 32 ∷ x) (code_owed n text h)

-- ---- in HTML they are left out

pub bytes_owed : (n : ℕ) (text : List ℕ) → ((k : ℕ) → get_or text k 0 < 256) → bytes_of (replicate n tab_column ++ text) ≡ text
bytes_owed zero text h = only_bytes text h
bytes_owed (suc n) text h = bytes_owed n text h

-- ---- an info has none

pub none_owed : (n : ℕ) (text : List ℕ) → list_all is_byte (replicate n tab_column ++ text) ≡ true → replicate n tab_column ++ text ≡ text
none_owed zero text h = refl
none_owed (suc n) text h = let wrong : false ≡ true = h in cc
