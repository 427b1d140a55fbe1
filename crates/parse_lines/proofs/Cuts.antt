-- Where a text may be cut: between its characters.
use Rattle.std.proofs.Common.{◌≡◌, ◌<◌, ℕ, ◌+◌, ◌-◌, true, List, [], ◌∷◌, ◌++◌, None, Some, refl, sym, ap, ◌∙◌, subst, arith, drop, get_or, length}
use Rattle.std.proofs.Common.{append_assoc, length-append, length-drop}
use Rattle.std.specs.Str.{IsCharBoundary}
use Rattle.std.proofs.lemmas.List.{get_or-drop}
use Rattle.std.proofs.lemmas.Str.{IsCharBoundary-before_ascii, IsCharBoundary-end}
use Rattle.markdown_options.specs.declared.line_ending.LineEnding.TheVariants.{CarriageReturnLineFeed, CarriageReturn, LineFeed}
use Rattle.parse_lines.proofs.Prelude.{append-nil-list, bytes_of, cond-true, drop-append_seam, End, end_at, end_edge, ending_text, is_byte, is_tab_column}
use Rattle.parse_lines.proofs.Prelude.{IsInLine, IsLineOf, LineEnding, Option, prefix_len, Rest, rest_start, Standing, whole}
use Rattle.parse_lines.proofs.Between.{rest_there}
use Rattle.parse_lines.proofs.Ends.{start_whole}

-- before a byte of ASCII
pub ascii_cut : (text : List ℕ) (index b : ℕ) (rest : List ℕ) → drop index text ≡ b ∷ rest → b < 128 → IsCharBoundary text index
ascii_cut text index b rest is ascii =
    let here : index + 0 ≡ index = omega arith in
    let byte : get_or text index 0 ≡ b =
    sym (get_or-drop index text 0 0 ∙ ap (λ (k : ℕ). get_or text k 0) here) ∙ ap (λ (xs : List ℕ). get_or xs 0 0) is in
    IsCharBoundary-before_ascii text index (omega (arith, ap length is, length-drop index text)) (omega (arith, byte, ascii))

-- ---- ends of lines

ascii_after : (text before content more : List ℕ) (b : ℕ) → text ≡ before ++ (content ++ (b ∷ more)) → b < 128
    → IsCharBoundary text (length before + length content)
ascii_after text before content more b is ascii =
    let front = before ++ content in
    let there : drop (length front) text ≡ b ∷ more =
    ap (drop (length front)) (is ∙ sym (append_assoc before content (b ∷ more))) ∙ drop-append_seam front (b ∷ more) in
    subst (IsCharBoundary text) (length-append before content) (ascii_cut text (length front) b more there ascii)

ending_after : (text before content left : List ℕ) (ending : Option LineEnding) → text ≡ before ++ (content ++ (ending_text ending ++ left))
    → (ending ≡ None → left ≡ []) → IsCharBoundary text (length before + length content)
ending_after text before content left None is last =
    let all : text ≡ before ++ content =
    is ∙ ap (λ (xs : List ℕ). before ++ (content ++ xs)) (last refl) ∙ ap (λ (xs : List ℕ). before ++ xs) (append-nil-list content) in
    subst (IsCharBoundary text) (ap length all ∙ length-append before content) (IsCharBoundary-end text)
ending_after text before content left (Some LineFeed) is last = ascii_after text before content left 10 is (omega arith)
ending_after text before content left (Some CarriageReturn) is last = ascii_after text before content left 13 is (omega arith)
ending_after text before content left (Some CarriageReturnLineFeed) is last = ascii_after text before content (10 ∷ left) 13 is (omega arith)

-- before the ending of a line, or at the end of the text
pub line_end_cut : (text : List ℕ) (s : Standing) → IsInLine text s → IsCharBoundary text s.line_end
line_end_cut text s line =
    subst (IsCharBoundary text) (sym line.end) (ending_after text line.before line.content s.left s.ending line.parts.parts line.last)

-- ---- columns of a line

module _ (text before content after : List ℕ) (line_end : ℕ) (line : IsLineOf text before content after) (end : line_end ≡ length before + length content) where
  -- before a byte of a line that is ASCII
  pub column_cut : (n b : ℕ) (more : Rest) → prefix_len is_tab_column (drop n (whole content)) ≡ 0 → drop n (whole content) ≡ b ∷ more → is_byte b ≡ true
      → b < 128 → IsCharBoundary text (rest_start line_end (drop n (whole content))).index
  column_cut n b more none next byte ascii =
      let rest = drop n (whole content) in
      let index = line_end - length (bytes_of rest) in
      let here : rest_start line_end rest ≡ end_at index 0 = start_whole line_end rest none in
      let there : drop index text ≡ b ∷ (bytes_of more ++ after) =
      ap (λ (e : End). drop (end_edge text e) text) (sym here) ∙ rest_there text before content after line_end line end n
      ∙ ap (λ (xs : Rest). bytes_of xs ++ after) next ∙ ap (λ (xs : List ℕ). xs ++ after) (cond-true (is_byte b) _ _ byte) in
      subst (λ (e : End). IsCharBoundary text e.index) (sym here) (ascii_cut text index b (bytes_of more ++ after) there ascii)
