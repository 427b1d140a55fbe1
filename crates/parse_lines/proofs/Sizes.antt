-- A content isn't much longer than its text: a column of a tab is a byte in it.
use Rattle.std.proofs.Common.{◌≡◌, ℕ, ◌+◌, ◌-◌, ◌*◌, ◌≤◌, zero, suc, List, [], ◌∷◌, ◌++◌, eqb, inl, inr, refl, sym, ap, ◌∙◌, subst, arith, take, length, length-append}
use Rattle.parse_lines.proofs.Prelude.{AreTaken, beside_line, Between, block_codes, BlockLine, bytes_of, cases_Bool, code_byte, codes_from, columns_after_tab}
use Rattle.parse_lines.proofs.Prelude.{cond-false, cond-true, Constructs, Container, content_from, ending_text, filter, is_byte, is_tab_column, IsRestLine}
use Rattle.parse_lines.proofs.Prelude.{Kind, length-drop, length-map, line_left, line_rest, LineEnding, LineRest, map, Option, Place, prefix_len, prefixed}
use Rattle.parse_lines.proofs.Prelude.{replicate, Rest, TextLine, unread, whole, width}
use Rattle.std.specs.Prelude.{Bool}
use Rattle.markdown_options.specs.declared.beside.Kind.TheVariants.{Whitespace}
use Rattle.parse_lines.proofs.Columns.{codes_first}
use Rattle.parse_lines.proofs.Lines.{joined}
use Rattle.parse_lines.proofs.Suffixes.{IsEnd, prefixed_follows}

filter_size : (p : ℕ → Bool) (xs : List ℕ) → length (filter p xs) ≤ length xs
filter_size p [] = omega arith
filter_size p (x ∷ xs) =
    elim (cases_Bool (p x)) [
      | inl t ↦ let is : length (filter p (x ∷ xs)) ≡ suc (length (filter p xs)) = ap length (cond-true (p x) _ _ t) in omega (arith, is, filter_size p xs)
      | inr t ↦ let is : length (filter p (x ∷ xs)) ≡ length (filter p xs) = ap length (cond-false (p x) _ _ t) in omega (arith, is, filter_size p xs)
    ]

take_size : (k : ℕ) (xs : List ℕ) → length (take k xs) ≤ length xs
take_size zero xs = omega arith
take_size (suc k) [] = omega arith
take_size (suc k) (x ∷ xs) = omega (arith, take_size k xs)

copies_size : (k x : ℕ) → length (replicate k x) ≡ k
copies_size zero x = refl
copies_size (suc k) x = ap suc (copies_size k x)

width_most : (c b : ℕ) → width c b ≤ 4
width_most c b =
    elim (cases_Bool (eqb b 9)) [
      | inl t ↦ let is : width c b ≡ 1 + columns_after_tab c = cond-true (eqb b 9) _ _ t in omega (arith, is)
      | inr t ↦ let is : width c b ≡ 1 = cond-false (eqb b 9) _ _ t in omega (arith, is)
    ]

codes_size : (c : ℕ) (bs : List ℕ) → length (codes_from c bs) ≤ 4 * length bs
codes_size c [] = omega arith
codes_size c (b ∷ bs) =
    let w = width c b in
    let is : length (codes_from c (b ∷ bs)) ≡ suc (length (replicate (w - 1) 256) + length (codes_from (c + w) bs)) =
    ap length (codes_first c b bs) ∙ ap suc (length-append (replicate (w - 1) 256) (codes_from (c + w) bs)) in
    omega (arith, is, copies_size (w - 1) 256, codes_size (c + w) bs, width_most c b)

-- a line of a content
pub line_size : (content : List ℕ) (rest : Rest) → IsEnd rest (whole content) → length (map code_byte (block_codes rest)) ≤ 8 * length content
line_size content rest end =
    let size = length-map (block_codes rest) code_byte in
    let k = prefix_len is_tab_column rest in
    let parts = length-append (take k rest) (bytes_of rest) in
    let left = ap length end.1 ∙ length-drop end.0 (whole content) in
    omega (arith, size, parts, left, take_size k rest, filter_size is_byte rest, codes_size 0 content)

module _ (on : Constructs) (containers : List Container) where
  -- the lines that are taken
  pub content_size : (ts : List TextLine) (kind : Kind) (line : List ℕ) (ending : Option LineEnding) (others : List BlockLine) (to : Place)
      → AreTaken on containers IsRestLine others (Between (unread kind ts)) to
      → length (content_from line ending others) ≤ length line + length (ending_text ending) + 8 * length (joined ts)
  content_size ts kind line ending [] to taken = omega arith
  content_size [] kind line ending (next ∷ others) to taken = absurd taken.2
  content_size (t ∷ ts) kind line ending (next ∷ others) to taken =
      let first = line_rest (whole t.content) (beside_line kind t) in
      let left = line_left (prefixed on containers first) in
      let follows = prefixed_follows on containers first in
      let here : line_left taken.0 ≡ left = ap line_left (sym taken.2.0) in
      let codes : next.codes ≡ block_codes left.rest = ap (λ (l : BlockLine). l.codes) taken.3.1 ∙ ap (λ (l : LineRest). block_codes l.rest) here in
      let last : next.ending ≡ t.ending =
      ap (λ (l : BlockLine). l.ending) taken.3.1 ∙ ap (λ (l : LineRest). l.beside.ending) here ∙ follows.ending in
      let more =
      content_size ts Whitespace (map code_byte next.codes) next.ending others to
      (subst (λ (ls : List LineRest). AreTaken on containers IsRestLine others (Between ls) to) (sym taken.2.1) taken.4) in
      let size : length (map code_byte next.codes) ≤ 8 * length t.content =
      subst (λ (cs : List ℕ). length (map code_byte cs) ≤ 8 * length t.content) (sym codes) (line_size t.content left.rest follows.end) in
      let endings : length (ending_text next.ending) ≡ length (ending_text t.ending) = ap (λ (e : Option LineEnding). length (ending_text e)) last in
      let all = content_from (map code_byte next.codes) next.ending others in
      let parts : length (line ++ (ending_text ending ++ all)) ≡ length line + (length (ending_text ending) + length all) =
      length-append line (ending_text ending ++ all) ∙ ap (λ (n : ℕ). length line + n) (length-append (ending_text ending) all) in
      let whole_size : length (joined (t ∷ ts)) ≡ (length t.content + length (ending_text t.ending)) + length (joined ts) =
      length-append (t.content ++ ending_text t.ending) (joined ts) ∙ ap (λ (n : ℕ). n + length (joined ts)) (length-append t.content (ending_text t.ending)) in
      omega (arith, parts, more, size, endings, whole_size)
