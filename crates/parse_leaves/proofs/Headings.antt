-- The line that is begun tells which kind a heading is of (CommonMark 4.2 and 4.3).
use Rattle.std.proofs.Common.{◌≡◌, ℕ, ◌<◌, false, List, [], ◌∷◌, None, Some, inl, inr, refl, sym, ap, ◌∙◌, subst, arith, get_or, length}
use Rattle.parse_leaves.proofs.Prelude.{around, Atx, BlockLine, Heading, heading_atx, length-map, line_left, LineRest, none-some, own_lines, Piece, piece_line}
use Rattle.parse_leaves.proofs.Prelude.{piece_lines, Reading, rest_of, standing, Walk, Within, WritesReadLeaf}
use Rattle.parse_laid.proofs.HeadingSetext.{no_text}
use Rattle.parse_leaves.specs.Headings.{WritesAtxHeading, WritesSetextHeading}
use Rattle.parse_leaves.proofs.RowLeaves.{own_size}

one_piece : (pieces : List Piece) (d : Piece) → length pieces ≡ 1 → piece_line (get_or pieces 0 d) ∷ [] ≡ piece_lines pieces
one_piece [] d one = absurd (omega (arith, one))
one_piece (p ∷ []) d one = refl
one_piece (p ∷ q ∷ others) d one = absurd (omega (arith, one))

module _ {A : Type 0} (r : Reading) (rank : ℕ) (old new : Walk A) where
  -- a line that is no heading by `#`
  pub setext_only : (ls : List BlockLine) → heading_atx old.on.now (rest_of old.rest) ≡ None → WritesSetextHeading r rank ls old new
      → WritesReadLeaf r false (Heading rank ls) [] old new
  setext_only ls none written text top here left to st at order by (inr setext) = written text top here left to st at order by setext
  setext_only ls none written text top here left to st at order by (inl atx) =
      let same : here ≡ atx.0 = ap line_left atx.3.0 in
      absurd (none-some atx.2
      (sym none ∙ ap (heading_atx old.on.now) st.rest ∙ ap (λ (l : LineRest). heading_atx old.on.now l.rest) same ∙ atx.4))

  -- a line that is one
  pub atx_only : (pieces : List Piece) (d : Piece) (found : Atx) → Some found ≡ heading_atx old.on.now (rest_of old.rest)
      → WritesAtxHeading r rank (own_lines (piece_line (get_or pieces 0 d) ∷ [])) old new
      → WritesReadLeaf r false (Heading rank (own_lines (piece_lines pieces))) [] old new
  atx_only pieces d found is written text top here left to st at order by (inl atx) =
      let size : length pieces ≡ 1 = sym (length-map pieces piece_line) ∙ sym (own_size (piece_lines pieces)) ∙ ap length atx.6 in
      subst (λ (xs : List BlockLine). WritesAtxHeading r rank xs old new) (ap own_lines (one_piece pieces d size)) written text top here left to st at order by atx
  atx_only pieces d found is written text top here left to st at order by (inr setext) =
      absurd (no_text old.on.now (around (standing old)) setext.0 (Within here left) setext.1 here left found (refl, refl)
      (ap (heading_atx old.on.now) (sym st.rest) ∙ sym is) setext.4)

  some_line : WritesReadLeaf r false (Heading rank []) [] old new
  some_line text top here left to st at order by (inl atx) = let no : 0 ≡ 1 = ap length atx.6 in absurd (omega (arith, no))
  some_line text top here left to st at order by (inr setext) =
      let no : 0 ≡ length setext.0 = ap length setext.5 ∙ own_size setext.0 in
      let some : 0 < length setext.0 = setext.4.0 in
      absurd (omega (arith, no, some))

  -- no heading has no line
  pub no_pieces : (pieces : List Piece) → length pieces ≡ 0 → WritesReadLeaf r false (Heading rank (own_lines (piece_lines pieces))) [] old new
  no_pieces [] none = some_line
  no_pieces (p ∷ pieces) none = absurd (omega (arith, none))
