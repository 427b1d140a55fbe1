-- The leaf of a row is written, by the kind of the row (CommonMark 4).
use Rattle.std.proofs.Common.{◌≡◌, ℕ, zero, suc, ◌+◌, ◌<◌, Bool, true, false, List, [], ◌∷◌, ◌++◌, refl, sym, ap, ◌∙◌, subst, arith, drop, take, length, length-drop, get_or}
use Rattle.std.specs.Prelude.{replicate}
use Rattle.std.proofs.lemmas.Bool.Decides.{nat_tests}
use Rattle.parse_leaves.proofs.Prelude.{AreContentLines, AreLines, BlockLine, bytes_of, cond-true, definition_on, definition_value, Heading, length-map, lines}
use Rattle.parse_leaves.proofs.Prelude.{own_lines, Paragraph, Piece, piece_lines, Reading, Single, tab_column, Walk, whole_lines, WritesReadLeaf, WritesRow}
use Rattle.definition_text.specs.Columns.{is_byte}
use Rattle.definition_block.specs.Tree.{Break, FencedCode, Html, IndentedCode}
use Rattle.block_rows.specs.declared.row.Row.{Row}
use Rattle.block_rows.specs.declared.row.Row.TheVariants as row
use Rattle.block_rows.specs.Rows.{first_codes, row_size, row_value}
use Rattle.text_pieces.specs.Pieces.{whole_line}
use Rattle.text_lines.proofs.Codes.{no_bytes}
use Rattle.parse_lines.proofs.Columns.{tail_bytes}
use Rattle.parse_raw.specs.Laid.{WritesReadUnclosed}
use Rattle.parse_leaves.specs.Rows.{AreLinesOf}

-- all lines of a row
pub all_taken : (ls : List BlockLine) (count : ℕ) → length ls ≡ count → take count ls ≡ ls
all_taken [] zero is = refl
all_taken [] (suc count) is = absurd (omega (arith, is))
all_taken (line ∷ ls) zero is = absurd (omega (arith, is))
all_taken (line ∷ ls) (suc count) is = ap (λ (others : List BlockLine). line ∷ others) (all_taken ls count (omega (arith, is)))

pub own_size : (ls : List BlockLine) → length (own_lines ls) ≡ length ls
own_size [] = refl
own_size (line ∷ []) = refl
own_size (line ∷ next ∷ others) = ap suc (own_size (next ∷ others))

-- as many as a raw block has
pub raw_size : (ls : List BlockLine) (count : ℕ) → length ls ≡ count → count ≡ length (own_lines (take count ls))
raw_size ls count is = sym (ap (λ (xs : List BlockLine). length (own_lines xs)) (all_taken ls count is) ∙ own_size ls ∙ is)

-- the lines after an info
pub fenced_size : (ls : List BlockLine) (count : ℕ) → length ls ≡ 1 + count → count ≡ length (take count (drop 1 ls))
fenced_size ls count is =
    let left : length (drop 1 ls) ≡ count = omega (arith, is, length-drop 1 ls) in
    sym (ap length (all_taken (drop 1 ls) count left) ∙ left)

pub whole_size : (text : List ℕ) → length (lines text) ≡ length (whole_lines text)
whole_size text = sym (length-map (lines text) whole_line)

below_is_byte : (b : ℕ) → b < 256 → is_byte b ≡ true
below_is_byte b lt = grind (arith, nat_tests, lt)

-- the bytes of a piece
bytes_same : (text : List ℕ) → ((k : ℕ) → get_or text k 0 < 256) → bytes_of text ≡ text
bytes_same [] h = refl
bytes_same (b ∷ bs) h =
    cond-true (is_byte b) _ _ (below_is_byte b (h 0))
    ∙ ap (λ (xs : List ℕ). b ∷ xs) (bytes_same bs (tail_bytes b bs h))

pub piece_bytes : (owed : ℕ) (text : List ℕ) → ((k : ℕ) → get_or text k 0 < 256) → bytes_of (replicate owed tab_column ++ text) ≡ text
piece_bytes owed text h = no_bytes owed text ∙ bytes_same text h

-- ---- the text of a piece

-- that of the first
pub whole_first : (pieces : List Piece) (d : Piece) (text : List ℕ) → 0 < length pieces → text ≡ (get_or pieces 0 d).text.now → ((k : ℕ) → get_or text k 0 < 256)
    → bytes_of (first_codes (piece_lines pieces)) ≡ text
whole_first [] d text some is bytes = absurd (omega (arith, some))
whole_first (piece ∷ pieces) d text some is bytes =
    ap (λ (xs : List ℕ). bytes_of (replicate piece.owed tab_column ++ xs)) (sym is) ∙ piece_bytes piece.owed text bytes

-- and of the second
pub whole_second : (pieces : List Piece) (d : Piece) (text : List ℕ) → 1 < length pieces → text ≡ (get_or pieces 1 d).text.now → ((k : ℕ) → get_or text k 0 < 256)
    → bytes_of (first_codes (drop 1 (piece_lines pieces))) ≡ text
whole_second [] d text some is bytes = absurd (omega (arith, some))
whole_second (first ∷ pieces) d text some is bytes = whole_first pieces d text (omega (arith, some)) is bytes

-- ---- by rows

module _ {A : Type 0} (r : Reading) (first : Bool) (x : Row) (ls : List BlockLine) (old new : Walk A) where
  -- it is this row
  by_row : (y : Row) → x ≡ y → WritesRow r first (row_value y ls) old new → WritesRow r first (row_value x ls) old new
  by_row y is written = subst (λ (z : Row). WritesRow r first (row_value z ls) old new) (sym is) written

  size_by : (y : Row) → x ≡ y → AreLinesOf x ls → length ls ≡ row_size y
  size_by y is of = of.size ∙ ap row_size is

  pub paragraph_row : (k : ℕ) → x ≡ row.Paragraph k → AreLinesOf x ls → (AreLines ls → WritesReadLeaf r first (Paragraph (own_lines ls)) [] old new)
      → WritesRow r first (row_value x ls) old new
  paragraph_row k is of written =
      by_row (row.Paragraph k) is (
      subst (λ (xs : List BlockLine). WritesReadLeaf r first (Paragraph (own_lines xs)) [] old new) (sym (all_taken ls k (size_by (row.Paragraph k) is of)))
      (written (subst (λ (z : Row). AreLinesOf z ls) is of).lines)
      )

  pub heading_row : (rank : ℕ) → x ≡ row.Heading rank → AreLinesOf x ls
      → (AreContentLines ls → WritesReadLeaf r false (Heading rank (own_lines ls)) [] old new) → WritesRow r first (row_value x ls) old new
  heading_row rank is of written =
      by_row (row.Heading rank) is (
      subst (λ (xs : List BlockLine). WritesReadLeaf r first (Heading rank (own_lines xs)) [] old new) (sym (all_taken ls 1 (size_by (row.Heading rank) is of)))
      (written (subst (λ (z : Row). AreLinesOf z ls) is of).lines)
      )

  pub setext_row : (rank k : ℕ) → x ≡ row.SetextHeading rank k → AreLinesOf x ls
      → (AreContentLines ls → WritesReadLeaf r false (Heading rank (own_lines ls)) [] old new) → WritesRow r first (row_value x ls) old new
  setext_row rank k is of written =
      by_row (row.SetextHeading rank k) is (
      subst (λ (xs : List BlockLine). WritesReadLeaf r first (Heading rank (own_lines xs)) [] old new) (sym (all_taken ls k (size_by (row.SetextHeading rank k) is of)))
      (written (subst (λ (z : Row). AreLinesOf z ls) is of).lines)
      )

  pub break_row : x ≡ row.Break → WritesReadLeaf r first Break [] old new → WritesRow r first (row_value x ls) old new
  break_row is written = by_row row.Break is written

  pub indented_row : (k : ℕ) → x ≡ row.IndentedCode k → AreLinesOf x ls
      → ((own : List BlockLine) → k ≡ length own → WritesReadLeaf r first (IndentedCode own) [] old new) → WritesRow r first (row_value x ls) old new
  indented_row k is of written =
      by_row (row.IndentedCode k) is (written (own_lines (take k ls)) (raw_size ls k (size_by (row.IndentedCode k) is of)))

  pub html_row : (k : ℕ) → x ≡ row.Html k → AreLinesOf x ls
      → ((own : List BlockLine) → k ≡ length own → WritesReadLeaf r first (Html own) [] old new) → WritesRow r first (row_value x ls) old new
  html_row k is of written = by_row (row.Html k) is (written (own_lines (take k ls)) (raw_size ls k (size_by (row.Html k) is of)))

  pub fenced_row : (k : ℕ) → x ≡ row.FencedCode k → AreLinesOf x ls
      → ((info : List ℕ) (own : List BlockLine) → k ≡ length own → WritesReadLeaf r first (FencedCode info true own) [] old new)
      → WritesRow r first (row_value x ls) old new
  fenced_row k is of written =
      by_row (row.FencedCode k) is (written (first_codes ls) (take k (drop 1 ls)) (fenced_size ls k (size_by (row.FencedCode k) is of)))

  pub unclosed_row : (k : ℕ) → x ≡ row.UnclosedCode k → AreLinesOf x ls
      → ((info : List ℕ) (own : List BlockLine) → k ≡ length own → WritesReadUnclosed r first (FencedCode info false own) old new)
      → WritesRow r first (row_value x ls) old new
  unclosed_row k is of written =
      by_row (row.UnclosedCode k) is (written (first_codes ls) (take k (drop 1 ls)) (fenced_size ls k (size_by (row.UnclosedCode k) is of)))

  pub definition_row : (k : ℕ) → x ≡ row.Definition k → AreLinesOf x ls
      → WritesRow r first (Single (definition_value (own_lines ls) (definition_on ls))) old new → WritesRow r first (row_value x ls) old new
  definition_row k is of written =
      by_row (row.Definition k) is (
      subst (λ (xs : List BlockLine). WritesRow r first (Single (definition_value (own_lines xs) (definition_on xs))) old new)
      (sym (all_taken ls k (size_by (row.Definition k) is of))) written
      )

  pub whole_code_row : (text : List ℕ) → x ≡ row.WholeCode → bytes_of (first_codes (drop 1 ls)) ≡ text
      → ((info : List ℕ) (own : List BlockLine) → length (lines text) ≡ length own → WritesReadLeaf r first (FencedCode info true own) [] old new)
      → WritesRow r first (row_value x ls) old new
  whole_code_row text is bytes written =
      by_row row.WholeCode is (
      subst (λ (xs : List ℕ). WritesReadLeaf r first (FencedCode (first_codes ls) true (whole_lines xs)) [] old new) (sym bytes)
      (written (first_codes ls) (whole_lines text) (whole_size text))
      )

  pub whole_paragraph_row : (text : List ℕ) → x ≡ row.WholeParagraph → bytes_of (first_codes ls) ≡ text
      → WritesReadLeaf r first (Paragraph (own_lines (whole_lines text))) [] old new → WritesRow r first (row_value x ls) old new
  whole_paragraph_row text is bytes written =
      by_row row.WholeParagraph is (
      subst (λ (xs : List ℕ). WritesReadLeaf r first (Paragraph (own_lines (whole_lines xs))) [] old new) (sym bytes) written
      )
