-- The lines of a block.
use Rattle.std.proofs.Common.{◌≡◌, ◌≤◌, arith, take, length, get_or, List, [], ◌∷◌, refl, ap, suc}
use Rattle.html_rows.proofs.Prelude.{AreClear, AreHeadingLines, AreLines, BlockLine, first_codes, own_lines, Piece, piece_line, piece_lines}

-- the first line
pub first_codes_of : (pieces : List Piece) (d : Piece) → 1 ≤ length pieces → first_codes (piece_lines pieces) ≡ (piece_line (get_or pieces 0 d)).codes
first_codes_of [] d some = absurd (omega (arith, some))
first_codes_of (a ∷ others) d some = refl

pub first_line : (pieces : List Piece) (d : Piece) → 1 ≤ length pieces → take 1 (piece_lines pieces) ≡ piece_line (get_or pieces 0 d) ∷ []
first_line [] d some = absurd (omega (arith, some))
first_line (a ∷ others) d some = refl

-- one line
pub one_line : (pieces : List Piece) (d : Piece) → length pieces ≡ 1 → piece_lines pieces ≡ piece_line (get_or pieces 0 d) ∷ []
one_line [] d one = absurd (omega (arith, one))
one_line (a ∷ []) d one = refl
one_line (a ∷ b ∷ others) d one = absurd (omega (arith, one))

-- ---- lines without the ending of the last one

pub with_ending : (ls : List BlockLine) → AreLines (own_lines ls) → AreLines ls
with_ending [] h = tt
with_ending (a ∷ []) h = h
with_ending (a ∷ b ∷ []) h = h
with_ending (a ∷ b ∷ c ∷ others) h = (h.0, h.1, h.2, with_ending (b ∷ c ∷ others) h.3)

-- lines of a table
pub clear_with_ending : (ls : List BlockLine) → AreClear (own_lines ls) → AreClear ls
clear_with_ending [] h = tt
clear_with_ending (a ∷ []) h = h
clear_with_ending (a ∷ b ∷ others) h = (h.0, clear_with_ending (b ∷ others) h.1)

pub own_length : (ls : List BlockLine) → length (own_lines ls) ≡ length ls
own_length [] = refl
own_length (a ∷ []) = refl
own_length (a ∷ b ∷ others) = ap suc (own_length (b ∷ others))

-- the lines of a heading
pub several_lines : (ls : List BlockLine) → (length ls ≡ 1 → ⊥) → AreHeadingLines (own_lines ls) → AreLines ls
several_lines [] several h = tt
several_lines (a ∷ []) several h = absurd (several refl)
several_lines (a ∷ b ∷ []) several h = h
several_lines (a ∷ b ∷ c ∷ others) several h = with_ending (a ∷ b ∷ c ∷ others) h
