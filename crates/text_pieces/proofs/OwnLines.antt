-- One more line of a block, and its last ending.
use Rattle.std.proofs.Common.{◌≡◌, ◌<◌, ◌-◌, suc, length, get_or, arith, List, [], ◌∷◌, ◌++◌, ℕ, Option, None, refl, sym, ap, ◌∙◌, append_assoc}
use Rattle.std.specs.List.{flat_map}
use Rattle.std.proofs.lemmas.List.{append-nil}
use Rattle.markdown_options.specs.declared.line_ending.LineEnding.{LineEnding}
use Rattle.text_pieces.specs.declared.piece.Piece.{Piece}
use Rattle.definition_text.specs.Lines.{ending_text}
use Rattle.text_pieces.specs.Pieces.{piece_lines}
use Rattle.definition_text.specs.BlockLines.{BlockLine, own_lines, last_ending, last_ending_or}

pub last_ending_or-more : (e : Option LineEnding) (ls : List BlockLine) (l : BlockLine) → last_ending_or e (ls ++ l ∷ []) ≡ l.ending
last_ending_or-more e [] l = refl
last_ending_or-more e (a ∷ ls) l = last_ending_or-more a.ending ls l

pub last_ending_more : (ls : List BlockLine) (l : BlockLine) → last_ending (ls ++ l ∷ []) ≡ l.ending
last_ending_more ls l = last_ending_or-more None ls l

-- lines whose codes stand for a text
module _ (body : List ℕ → List ℕ) where
  abbrev line : BlockLine → List ℕ
  line l = body l.codes ++ ending_text l.ending

  -- a last line
  last_line : (l : BlockLine) → flat_map line (own_lines (l ∷ [])) ≡ body l.codes
  last_line l = append-nil (body l.codes ++ []) ∙ append-nil (body l.codes)

  pub lines_more : (ls : List BlockLine) (l : BlockLine)
      → flat_map line (own_lines (ls ++ l ∷ [])) ≡ (flat_map line (own_lines ls) ++ ending_text (last_ending ls)) ++ body l.codes
  lines_more [] l = last_line l
  lines_more (a ∷ []) l =
      ap (λ x. line a ++ x) (last_line l) ∙ ap (λ x. (x ++ ending_text a.ending) ++ body l.codes) (sym (last_line a))
  lines_more (a ∷ b ∷ bs) l =
      let more = flat_map line (own_lines (b ∷ bs)) in
      let ending = ending_text (last_ending (b ∷ bs)) in
      ap (λ x. line a ++ x) (lines_more (b ∷ bs) l)
      ∙ sym (append_assoc (line a) (more ++ ending) (body l.codes))
      ∙ ap (λ x. x ++ body l.codes) (sym (append_assoc (line a) more ending))

  -- the lines after one more
  pub lines_printed : (start : List ℕ) (ls : List BlockLine) (l : BlockLine)
      → ((start ++ flat_map line (own_lines ls)) ++ ending_text (last_ending ls)) ++ body l.codes ≡ start ++ flat_map line (own_lines (ls ++ l ∷ []))
  lines_printed start ls l =
      let so_far = flat_map line (own_lines ls) in
      let ending = ending_text (last_ending ls) in
      ap (λ x. x ++ body l.codes) (append_assoc start so_far ending)
      ∙ append_assoc start (so_far ++ ending) (body l.codes)
      ∙ ap (λ x. start ++ x) (sym (lines_more ls l))

  -- lines with the last ending
  pub with_last_ending : (ls : List BlockLine) → flat_map line ls ≡ flat_map line (own_lines ls) ++ ending_text (last_ending ls)
  with_last_ending [] = refl
  with_last_ending (l ∷ []) = append-nil (line l) ∙ ap (λ x. x ++ ending_text l.ending) (sym (last_line l))
  with_last_ending (a ∷ b ∷ bs) =
      ap (λ x. line a ++ x) (with_last_ending (b ∷ bs))
      ∙ sym (append_assoc (line a) (flat_map line (own_lines (b ∷ bs))) (ending_text (last_ending (b ∷ bs))))

-- the last line of pieces
pub last_piece_ending : (pieces : List Piece) (d : Piece) → 0 < length pieces → (get_or pieces (length pieces - 1) d).ending ≡ last_ending (piece_lines pieces)
last_piece_ending [] d some = absurd (omega arith)
last_piece_ending (a ∷ []) d some = refl
last_piece_ending (a ∷ b ∷ others) d some =
    let at : length (a ∷ b ∷ others) - 1 ≡ suc (length (b ∷ others) - 1) = omega arith in
    ap (λ i. (get_or (a ∷ b ∷ others) i d).ending) at ∙ last_piece_ending (b ∷ others) d (omega arith)
