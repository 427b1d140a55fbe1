-- Places of a content, in bytes.
use Rattle.std.proofs.Common.{◌≡◌, ◌<◌, ℕ, zero, suc, ◌+◌, List, [], ◌∷◌, drop, get_or, length, subst, arith}
use Rattle.parse_inline.proofs.Prelude.{IsCharBoundary, IsUtf8}
use Rattle.std.proofs.lemmas.Str.{IsCharBoundary-after_ascii}

-- a byte at a place, and what follows it
pub record IsAt (xs : List ℕ) (place b : ℕ) (rest : List ℕ) : Type 0 where
  pub within : place < length xs
  pub byte : get_or xs place 0 ≡ b
  pub after : drop (suc place) xs ≡ rest

pub byte_at : (xs : List ℕ) (place b : ℕ) (rest : List ℕ) → b ∷ rest ≡ drop place xs → IsAt xs place b rest
byte_at [] zero b rest is = absurd cc
byte_at [] (suc place) b rest is = absurd cc
byte_at (x ∷ xs) zero b rest is = record { within = omega arith; byte = cc; after = cc }
byte_at (x ∷ xs) (suc place) b rest is =
    let at = byte_at xs place b rest is in
    record { within = (let less = at.within in omega (arith, less)); byte = at.byte; after = at.after }

-- a text may be cut after an ASCII byte
pub cut_after : (xs : List ℕ) (before place b : ℕ) (rest : List ℕ) → IsUtf8 xs → place ≡ suc before → b ∷ rest ≡ drop before xs → b < 128
    → IsCharBoundary xs place
cut_after xs before place b rest utf8 is at ascii =
    let here = byte_at xs before b rest at in
    subst (IsCharBoundary xs) (let same : before + 1 ≡ place = omega (arith, is) in same)
    (IsCharBoundary-after_ascii xs before utf8 here.within (omega (arith, here.byte, ascii)))
