-- The lines of pieces, and the bytes of a line.
use Rattle.std.proofs.Common.{◌≡◌, ℕ, ◌-◌, ◌<◌, suc, List, [], ◌∷◌, None, true, not, refl, sym, ap, ◌∙◌, take, drop, length, get_or, arith}
use Rattle.std.proofs.lemmas.Bool.{ne_eqb, cond-true}
use Rattle.std.proofs.lemmas.List.{take_rest, drop-map}
use Rattle.markdown_options.specs.declared.beside.Kind.TheVariants.{Whitespace}
use Rattle.definition_text.specs.Columns.{is_byte, bytes_of}
use Rattle.text_pieces.specs.declared.piece.Piece.{Piece}
use Rattle.text_pieces.specs.Pieces.{piece_line, piece_lines}

-- the lines of the pieces from one on
pub lines_from : (n : ℕ) (pieces : List Piece) → piece_lines (take (length pieces - n) (drop n pieces)) ≡ drop n (piece_lines pieces)
lines_from n pieces = ap piece_lines (take_rest pieces n) ∙ sym (drop-map piece_line n pieces)

-- bytes are no columns of a tab
pub only_bytes : (text : List ℕ) → ((k : ℕ) → get_or text k 0 < 256) → bytes_of text ≡ text
only_bytes [] h = refl
only_bytes (b ∷ bs) h =
    let byte : b < 256 = h 0 in
    let is : is_byte b ≡ true = ap not (ne_eqb b 256 (λ e. omega arith)) in
    cond-true (is_byte b) (b ∷ bytes_of bs) (bytes_of bs) is ∙ ap (λ xs. b ∷ xs) (only_bytes bs (λ k. h (suc k)))

-- a piece where none is
abbrev pub no_piece : Piece
no_piece = record { text = record { ref_ptr = (0, 0); now = [] }; owed = 0; ending = None; before = Whitespace }
